use Rattle.bank_turns.proofs.Counts.{full_keeps_none}
use Rattle.bank_turns.proofs.kept_laws.full_cycles_keep_no_draft.Goals as goal

pub returns : goal.returns
returns c = full_keeps_none
