use Rattle.faim_model.proofs.Accepted.{accepted}
use Rattle.faim_model.proofs.Allowed.{allowed_taken}
use Rattle.faim_model.proofs.laws.accepted_where_allowed.Goals as goal

pub returns-clause-allowed : goal.returns-clause-allowed
returns-clause-allowed c = accepted

pub returns-clause-accepted : goal.returns-clause-accepted
returns-clause-accepted c = allowed_taken
