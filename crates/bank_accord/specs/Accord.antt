-- When what a bank keeps is what a host says: each verdict is the host's, and the inbox is the first of what the host puts out.
use Rattle.std.specs.Prelude.{◌≡◌, ℕ, Bool, List, ◌++◌, map}
use Rattle.std.specs.List.{Contains}
use Rattle.faim_base.specs.declared.ids.Imad.{Imad}
use Rattle.faim_base.specs.declared.judgement.Head.{Head}
use Rattle.faim_base.specs.declared.judgement.Verdict.{Verdict}
use Rattle.faim_message.specs.Spelling.{message_spelling}
use Rattle.link_frames.specs.declared.frame.FrameKind.{FrameKind}
use Rattle.link_frames.specs.Frames.{Content as Frame}
use Rattle.host_ledger.specs.declared.config.Config.{Config}
use Rattle.host_ledger.specs.declared.entries.Entry.{Entry}
use Rattle.host_ledger.specs.declared.entries.Entry.TheVariants.{Posted}
use Rattle.host_ledger.specs.Soundness.{IsConfig}
use Rattle.faim_model.specs.Outputs.{Item, outputs}
use Rattle.faim_model.specs.Lawful.{Lawful}
use Rattle.faim_model.specs.Deliveries.{output_message}
use Rattle.faim_model.specs.Frames.{Covered}
use Rattle.bank_books.specs.declared.entries.BankEntry.{BankEntry}
use Rattle.bank_books.specs.declared.entries.BankEntry.TheVariants.{Answered}
use Rattle.bank_books.specs.declared.entries.BankOpening.{BankOpening}
use Rattle.bank_books.specs.Inbox.{InboxItem, inbox}

-- a host's list gives this verdict on this IMAD
pub record HasVerdict (es : List Entry) (imad : Imad) (v : Verdict) : Type 0 where
  pub head : Head
  pub body : List ℕ
  pub resent : Bool
  pub moment : ℕ
  pub there : Contains es (Posted head body resent moment v)
  pub named : head.imad ≡ imad

-- each verdict that a bank keeps is the host's
abbrev pub VerdictsStand : List Entry → List BankEntry → Type 0
VerdictsStand es kept = (imad : Imad) (v : Verdict) → Contains kept (Answered imad v) → HasVerdict es imad v

-- the text of an endpoint's item as an output, with a blank as its mark
abbrev pub output_text : Config → List ℕ → Item → List ℕ
output_text c e i = message_spelling (output_message c.env e i 32)

-- the texts of a bank's inbox are the first of those that the host puts out to the endpoint, in the same order
abbrev pub InboxStands : Config → List Entry → List ℕ → List BankEntry → Type 0
InboxStands c es e kept = (later : List (List ℕ)) × (map (output_text c e) (outputs c es e) ≡ map (λ (i : InboxItem). i.text) (inbox kept) ++ later)

-- what a bank keeps is what the host says
pub record Accords (c : Config) (es : List Entry) (o : BankOpening) (kept : List BankEntry) : Type 0 where
  pub verdicts : VerdictsStand es kept
  pub inbox : InboxStands c es o.endpoint kept

-- what a bank asks of a frame of this kind: an acknowledgement and an output must be ones that the host's list covers
abbrev pub TrustedAs : Config → List Entry → FrameKind → Frame → Type 0
TrustedAs c es FrameKind.Ack f = Covered c es f
TrustedAs c es FrameKind.Output f = Covered c es f
TrustedAs c es kind f = Unit {0}

-- what comes from the host is what the host's list covers; a bank's own frames may hold anything
abbrev pub IsTrusted : Config → List Entry → Frame → Type 0
IsTrusted c es f = TrustedAs c es f.kind f

-- a host that a bank may talk to: its configuration is sound, its list lawful, and it opens at the bank's date
pub record IsHost (c : Config) (es : List Entry) (o : BankOpening) : Type 0 where
  pub sound : IsConfig c
  pub lawful : Lawful c es
  pub date : c.date ≡ o.date
