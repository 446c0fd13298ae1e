-- Why a text is no draft, as a function (docs/FORMATS.md, "Messages"): the law `draft_faults_are_refusals` pins it.
use Rattle.std.specs.Prelude.{ℕ, ◌+◌, List, [], ◌∷◌, Option, Some, None, option_map, if◌then◌else◌}
use Rattle.faim_base.specs.declared.judgement.Refused.{Refused}
use Rattle.faim_base.specs.declared.judgement.Refused.TheVariants.{Byte, Cut, Missing}
use Rattle.faim_message.specs.declared.form.Form.{Form}
use Rattle.faim_message.specs.declared.form.Form.TheVariants.{Draft}
use Rattle.faim_message.specs.Refusal.{missing}
use Rattle.faim_message.specs.Stages.{Stage, is_whole, next, start, tags_of}

-- the fault of bytes that end here: a tag or a break that isn't whole, or the least mandatory tag that isn't there
abbrev pub fault_at_end : Form → Stage → Option Refused
fault_at_end form s = if is_whole s then option_map (λ n. Missing n) (missing form (tags_of s)) else Some Cut

-- the fault of bytes that come after so many others: the first of them with which no message goes on, or that of their end
abbrev pub fault_from : Form → ℕ → Stage → List ℕ → Option Refused
fault_from form place s [] = fault_at_end form s
fault_from form place s (b ∷ bytes) = elim (next form s b) [
  | None ↦ Some (Byte place)
  | Some t ↦ fault_from form (place + 1) t bytes
]

-- why a text is no draft
abbrev pub draft_fault : List ℕ → Option Refused
draft_fault text = fault_from Draft 0 start text
