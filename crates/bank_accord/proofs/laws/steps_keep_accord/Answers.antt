use Rattle.bank_accord.proofs.Accorded.{step_accords}
use Rattle.bank_accord.proofs.laws.steps_keep_accord.Goals as goal

pub returns : goal.returns
returns c config es o kept f host keeps trusted accord = step_accords config es o host kept f keeps trusted accord
