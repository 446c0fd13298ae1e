-- What is safe: what holds of a world at each moment of its life.
use Rattle.std.specs.Prelude.{◌≡◌, ◌⊎◌, ℕ, ◌≤◌, Bool, true, List, length, bytes_eq}
use Rattle.std.specs.List.{Contains, IsDistinct}
use Rattle.faim_base.specs.Numbers.{IsMoment}
use Rattle.faim_base.specs.declared.ids.Imad.{Imad}
use Rattle.faim_base.specs.declared.ids.OutPos.{OutPos}
use Rattle.faim_base.specs.declared.judgement.Head.{Head}
use Rattle.faim_base.specs.declared.judgement.Verdict.{Verdict}
use Rattle.link_frames.specs.Frames.{Content as Frame}
use Rattle.host_ledger.specs.Accounts.{has_endpoint}
use Rattle.host_ledger.specs.Soundness.{IsConfig}
use Rattle.host_ledger.specs.declared.entries.Entry.TheVariants.{Posted}
use Rattle.bank_books.specs.declared.entries.BankEntry.{BankEntry}
use Rattle.bank_books.specs.Drafts.{Draft, drafts}
use Rattle.faim_model.specs.Frames.{Covered}
use Rattle.faim_model.specs.Lawful.{Lawful, last_moment}
use Rattle.faim_model.specs.Requests.{IsRetrieve}
use Rattle.bank_turns.specs.Drafting.{submit}
use Rattle.bank_turns.specs.KeptTexts.{KeptBank}
use Rattle.bank_accord.specs.Accord.{InboxStands, VerdictsStand}
use Rattle.world_model.specs.Worlds.{World, HasBank, opening_at}

-- the values of a world are in their ranges, and its banks stand at distinct endpoints of accounts
pub record IsWorld (w : World) : Type 0 where
  pub config : IsConfig w.config
  pub distinct : IsDistinct bytes_eq w.banks
  pub served : (e : List ℕ) → HasBank w e → has_endpoint w.config.accounts e ≡ true
  pub clock : IsMoment w.moment
  pub newest : IsMoment (last_moment w.entries)

-- a frame submits one of a bank's drafts, with a blank as its mark or P
pub record IsSubmission (kept : List BankEntry) (f : Frame) : Type 0 where
  pub draft : Draft
  pub there : Contains (drafts kept) draft
  pub mark : ℕ
  pub marked : (mark ≡ 32) ⊎ (mark ≡ 80)
  pub sent : f ≡ submit draft.imad draft.text mark

-- a frame comes from a bank: it submits one of that bank's drafts, or asks for its outputs
pub record IsFromBank (w : World) (f : Frame) : Type 0 where
  pub bank : HasBank w f.endpoint
  pub is : IsSubmission (w.books f.endpoint) f ⊎ ((at : OutPos) × IsRetrieve f at)

-- a bank drafted this text under this identifier
pub record IsDraftOf (kept : List BankEntry) (imad : Imad) (text : List ℕ) : Type 0 where
  pub draft : Draft
  pub there : Contains (drafts kept) draft
  pub named : draft.imad ≡ imad
  pub is : draft.text ≡ text

pub record Safe (w : World) : Type 0 where
  pub values : IsWorld w
  -- the host's list is lawful, and its last record lies in it
  pub lawful : Lawful w.config w.entries
  pub recent : w.recent ≤ length w.entries
  -- the host's list covers each frame that was ever sent from it
  pub covered : (f : Frame) → Contains w.from_host f → Covered w.config w.entries f
  -- each bank's list is lawful, and its texts are what they are to be
  pub banks : (e : List ℕ) → HasBank w e → KeptBank (opening_at w.config e) (w.books e)
  -- each frame that a bank ever sent submits a draft that it still has, or asks for its outputs
  pub submits : (f : Frame) → Contains w.to_host f → IsFromBank w f
  -- each message that was posted from a bank is the draft of that bank
  pub bodies : (h : Head) (body : List ℕ) (resent : Bool) (moment : ℕ) (v : Verdict)
      → Contains w.entries (Posted h body resent moment v) → HasBank w h.imad.source → IsDraftOf (w.books h.imad.source) h.imad body
  -- each verdict that a bank keeps is the host's
  pub verdicts : (e : List ℕ) → HasBank w e → VerdictsStand w.entries (w.books e)
  -- the inbox of each bank is the first of what the host puts out to it
  pub inboxes : (e : List ℕ) → HasBank w e → InboxStands w.config w.entries e (w.books e)
