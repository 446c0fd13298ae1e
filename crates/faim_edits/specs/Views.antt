-- The tables of the code as those of the definitions.
use Rattle.std.specs.Prelude.{ℕ, List}
use Rattle.std.specs.Borrow.{Bor}
use Rattle.faim_base.specs.Refusals.{refusal}
use Rattle.faim_message.specs.Edits.{Permitted, permits}
use Rattle.faim_edits.specs.Texts.{Listed, says}

abbrev pub permitted_by : Bor (List ℕ) × Bor (List ℕ) → Permitted
permitted_by row = permits row.0.now row.1.now

abbrev pub listed_by : ℕ × ℕ × Bor (List ℕ) → Listed
listed_by row = says (refusal row.0 row.1) row.2.now
