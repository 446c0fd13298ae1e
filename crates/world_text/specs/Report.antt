-- The texts of the report and of refusals (docs/FORMATS.md, "The report", "Scripts" and "Checks").
use Rattle.std.specs.Prelude.{ℕ, List, [], ◌∷◌, ◌++◌, codes, ℤ}
use Rattle.std.specs.Fmt.{decimal, signed_decimal}
use Rattle.std.specs.List.{flat_map}
use Rattle.faim_base.specs.declared.ids.Imad.{Imad}
use Rattle.faim_base.specs.declared.judgement.Refused.{Refused}
use Rattle.faim_base.specs.declared.judgement.Refused.TheVariants as bytes
use Rattle.faim_base.specs.declared.judgement.Reject.{Reject}
use Rattle.faim_base.specs.declared.judgement.Verdict.{Verdict}
use Rattle.faim_base.specs.declared.judgement.Verdict.TheVariants as verdicts
use Rattle.faim_base.specs.Calendar.{date_text}
use Rattle.faim_base.specs.Digits.{padded}
use Rattle.faim_model.specs.declared.decisions.HostOutcome.{HostOutcome}
use Rattle.faim_model.specs.declared.decisions.HostOutcome.TheVariants.{Recorded, Known, TurnedAway, Retrieved, Rolled, NotLater, Strange}
use Rattle.world_text.specs.declared.script.Why.{Why}
use Rattle.world_text.specs.declared.script.Why.TheVariants.{Shape, Value, Twice, Place, Limit, Ended, Size}
use Rattle.world_text.specs.declared.script.ScriptFault.{ScriptFault}
use Rattle.world_text.specs.declared.outcome.Outcome.{Outcome}
use Rattle.world_text.specs.declared.outcome.Outcome.TheVariants.{Host}
use Rattle.world_text.specs.declared.outcome.Closing.{Closing}

-- a refusal by the service: its letter and three digits
abbrev pub reject_text : Reject → List ℕ
reject_text r = r.category ∷ padded 3 r.code

-- a taken message's number has its own date
abbrev pub verdict_text : Imad → Verdict → List ℕ
verdict_text i (verdicts.Taken dest seq) = codes "taken " ++ date_text i.date ++ dest ++ padded 6 seq
verdict_text i (verdicts.Refused why) = codes "refused " ++ reject_text why

abbrev pub host_outcome_text : HostOutcome → List ℕ
host_outcome_text (Recorded i v) = verdict_text i v
host_outcome_text (Known i v) = codes "again " ++ verdict_text i v
host_outcome_text (TurnedAway why) = codes "turned " ++ reject_text why
host_outcome_text (Retrieved n) = codes "retrieved " ++ decimal n
host_outcome_text (Rolled date) = codes "rolled " ++ date_text date
host_outcome_text (NotLater current) = codes "notlater " ++ date_text current
host_outcome_text Strange = codes "strange"

abbrev pub outcome_text : Outcome → List ℕ
outcome_text (Host x) = host_outcome_text x

-- the line of an event's outcome, with the event's number
abbrev pub outcome_line : ℕ → Outcome → List ℕ
outcome_line n x = decimal n ++ codes " " ++ outcome_text x ++ 10 ∷ []

abbrev pub balance_line : List ℕ × ℤ → List ℕ
balance_line b = codes "balance " ++ b.0 ++ codes " " ++ signed_decimal b.1 ++ 10 ∷ []

abbrev pub count_line : List ℕ × ℕ → List ℕ
count_line n = codes "outputs " ++ n.0 ++ codes " " ++ decimal n.1 ++ 10 ∷ []

-- a line for each account, and one for each endpoint
abbrev pub balance_lines : List (List ℕ × ℤ) → List ℕ
balance_lines balances = flat_map balance_line balances

abbrev pub count_lines : List (List ℕ × ℕ) → List ℕ
count_lines counts = flat_map count_line counts

-- cycle, balances, outputs, end
abbrev pub closing_text : Closing → List ℕ
closing_text c =
    codes "cycle " ++ date_text c.cycle ++ 10 ∷ [] ++ balance_lines c.balances ++ count_lines c.outputs
    ++ codes "end" ++ 10 ∷ []

abbrev pub why_text : Why → List ℕ
why_text Shape = codes "shape"
why_text Value = codes "value"
why_text Twice = codes "twice"
why_text Place = codes "place"
why_text Limit = codes "limit"
why_text Ended = codes "ended"
why_text Size = codes "size"

-- the line that is written of a refused script
abbrev pub fault_line : ScriptFault → List ℕ
fault_line f = codes "line " ++ decimal f.line ++ codes " " ++ why_text f.why ++ 10 ∷ []

-- the line of bytes that are no message: a place in bytes from 0, or a tag's number
abbrev pub refusal_line : Refused → List ℕ
refusal_line (bytes.Byte place) = codes "byte " ++ decimal place ++ 10 ∷ []
refusal_line bytes.Cut = codes "cut" ++ 10 ∷ []
refusal_line (bytes.Missing number) = codes "missing " ++ decimal number ++ 10 ∷ []
refusal_line bytes.NoMemory = []
