-- What a reader of entries asks of a posted one.
use Rattle.std.specs.Prelude.{◌≡◌, ℕ, Bool, List, Option}
use Rattle.faim_base.specs.declared.judgement.Head.{Head}
use Rattle.faim_base.specs.declared.judgement.Reject.{Reject}
use Rattle.faim_base.specs.declared.judgement.Verdict.{Verdict}
use Rattle.host_ledger.specs.declared.config.Config.{Config}
use Rattle.host_ledger.specs.declared.entries.Entry.{Entry}
use Rattle.faim_model.specs.Lawful.{IsMark}
use Rattle.faim_model.specs.Submissions.{Numbered, submission, text_with}
use Rattle.faim_model.specs.Verdicts.{Now, verdict}

-- the body is a message with this head and a blank mark
abbrev pub Keeps : ℕ → Head → List ℕ → Type 0
Keeps env h body = (failed : Option Reject) × (submission env body ≡ Numbered h body 32 failed)

-- this is the verdict on the body with this mark, from the line of its identifier's source
abbrev pub HasVerdict : Config → List Entry → Head → List ℕ → ℕ → ℕ → Verdict → Type 0
HasVerdict c es h body mark moment v = verdict c es h.imad.source moment (text_with mark body) ≡ Now v

-- this is the verdict on the body with a mark that its first submission may have had
abbrev pub WasVerdict : Config → List Entry → Head → List ℕ → Bool → ℕ → Verdict → Type 0
WasVerdict c es h body resent moment v = (mark : ℕ) × IsMark resent mark × HasVerdict c es h body mark moment v
