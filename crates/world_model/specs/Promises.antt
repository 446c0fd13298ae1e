-- What is promised of a world, in the words of those who rely on it.
use Rattle.std.specs.Prelude.{◌≡◌, ◌⊎◌, ℕ, ◌≤◌, ◌≤ℤ◌, List, Some}
use Rattle.std.specs.Int.{int_min}
use Rattle.std.specs.List.{Contains}
use Rattle.faim_base.specs.declared.ids.Imad.{Imad}
use Rattle.faim_base.specs.declared.judgement.Verdict.{Verdict}
use Rattle.faim_message.specs.declared.form.Form.TheVariants.{Ack, Output}
use Rattle.faim_message.specs.Decoded.{decoded}
use Rattle.faim_message.specs.Spelling.{Content, mark_in}
use Rattle.link_frames.specs.declared.frame.FrameKind.{FrameKind}
use Rattle.link_frames.specs.Frames.{Content as Frame}
use Rattle.host_ledger.specs.declared.config.Account.{Account}
use Rattle.host_ledger.specs.Lists.{total}
use Rattle.host_ledger.specs.Sums.{balance}
use Rattle.faim_model.specs.Outputs.{Item, count_under, outputs}
use Rattle.faim_model.specs.Lawful.{numbers_under, one_to, times_posted}
use Rattle.faim_model.specs.Deliveries.{output_message}
use Rattle.faim_model.specs.Frames.{IsOutputMark}
use Rattle.faim_model.specs.Readings.{Acknowledges, imad_in, verdict_in}
use Rattle.world_model.specs.Worlds.{World}

-- each identifier is posted at most once
abbrev pub PostsOnce : World → Type 0
PostsOnce w = (imad : Imad) → times_posted imad w.entries ≤ 1

-- over all accounts the balances add up to the openings, in cents
abbrev pub KeepsMoney : World → Type 0
KeepsMoney w = total (λ a. balance w.config w.entries a.aba) w.config.accounts ≡ total (λ a. a.opening) w.config.accounts

-- no balance is below both the floor and the opening of its account
abbrev pub KeepsFloors : World → Type 0
KeepsFloors w = (a : Account) → Contains w.config.accounts a → int_min a.floor a.opening ≤ℤ balance w.config w.entries a.aba

-- each frame that the host ever sent reads as an acknowledgement, or as an output
abbrev pub SendsMessages : World → Type 0
SendsMessages w = (f : Frame) → Contains w.from_host f
    → ((f.kind ≡ FrameKind.Ack) × ((m : Content) × (decoded Ack f.payload ≡ Some m)))
    ⊎ ((f.kind ≡ FrameKind.Output) × ((m : Content) × (decoded Output f.payload ≡ Some m)))

-- the frame is one that the host sent, it is an acknowledgement, and it reads as this message, which tells this verdict
pub record IsSentAck (w : World) (f : Frame) (m : Content) (v : Verdict) : Type 0 where
  pub sent : Contains w.from_host f
  pub kind : f.kind ≡ FrameKind.Ack
  pub read : decoded Ack f.payload ≡ Some m
  pub tells : verdict_in m ≡ Some v

-- the message of each acknowledgement that was ever sent stands in the host's list, with the verdict that was told
abbrev pub KeepsAcks : World → Type 0
KeepsAcks w = (f : Frame) (m : Content) (v : Verdict) → IsSentAck w f m v → Acknowledges w.config w.entries v f m

-- of one message no two verdicts were ever told
abbrev pub TellsOneVerdict : World → Type 0
TellsOneVerdict w = (f g : Frame) (m other : Content) (v u : Verdict) → IsSentAck w f m v → IsSentAck w g other u → imad_in m ≡ imad_in other → v ≡ u

-- each output that was ever sent is one of the list's, to its endpoint, with a blank as its mark, P or R
abbrev pub SendsOutputs : World → Type 0
SendsOutputs w = (f : Frame) → Contains w.from_host f → f.kind ≡ FrameKind.Output
    → (m : Content) × (i : Item) × (decoded Output f.payload ≡ Some m) × Contains (outputs w.config w.entries f.endpoint) i
    × IsOutputMark (mark_in Output m.tags) × (m ≡ output_message w.config.env f.endpoint i (mark_in Output m.tags))

-- the outputs of each endpoint under each date are numbered 1, 2, 3 and so on
abbrev pub NumbersWithoutGaps : World → Type 0
NumbersWithoutGaps w = (e : List ℕ) (date : ℕ)
    → numbers_under date (outputs w.config w.entries e) ≡ one_to (count_under date (outputs w.config w.entries e))
