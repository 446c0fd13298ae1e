-- What an entry may hold (docs/FORMATS.md, "Entries").
use Rattle.std.specs.Prelude.{◌≡◌, ℕ, ◌≤◌, List, length, IsTrue}
use Rattle.std.specs.List.{list_all}
use Rattle.faim_base.specs.Limits.{longest_message}
use Rattle.faim_base.specs.Numbers.{IsAmount, IsDay, IsMoment, IsSeq, IsType}
use Rattle.faim_base.specs.Ranges.{IsAba, IsEndpoint, IsImad}
use Rattle.faim_base.specs.Refusals.{is_recorded}
use Rattle.faim_base.specs.Text.{is_text_byte}
use Rattle.faim_base.specs.declared.judgement.Head.{Head}
use Rattle.faim_base.specs.declared.judgement.Verdict.{Verdict}
use Rattle.faim_base.specs.declared.judgement.Verdict.TheVariants.{Taken, Refused}
use Rattle.host_ledger.specs.declared.entries.Entry.{Entry}
use Rattle.host_ledger.specs.declared.entries.Entry.TheVariants.{Posted, Roll}

-- three text bytes
abbrev pub IsCode : List ℕ → Type 0
IsCode code = (length code ≡ 3) × IsTrue (list_all is_text_byte code)

pub record IsHead (h : Head) : Type 0 where
  pub imad : IsImad h.imad
  pub sender : IsAba h.sender
  pub receiver : IsAba h.receiver
  pub code : IsCode h.code
  pub kind : IsType h.kind
  pub sub : IsType h.sub
  pub amount : IsAmount h.amount

-- an output's endpoint and number, or a refusal that is kept
abbrev pub IsVerdict : Verdict → Type 0
IsVerdict (Taken dest seq) = IsEndpoint dest × IsSeq seq
IsVerdict (Refused r) = IsTrue (is_recorded r)

-- a text that isn't empty and isn't longer than a message
abbrev pub IsBody : List ℕ → Type 0
IsBody body = (1 ≤ length body) × (length body ≤ longest_message)

-- what an entry may hold
abbrev pub IsEntry : Entry → Type 0
IsEntry (Posted head body resent moment verdict) = IsHead head × IsMoment moment × IsVerdict verdict × IsBody body
IsEntry (Roll moment date) = IsMoment moment × IsDay date
