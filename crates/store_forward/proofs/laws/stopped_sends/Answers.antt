use Rattle.store_forward.proofs.StopTable.{send_stopped, either_way}
use Rattle.store_forward.proofs.laws.stopped_sends.Goals as goal

pub returns-clause-call : goal.returns-clause-call
returns-clause-call c = λ frames fault old new. send_stopped (Unit {0}) frames fault old new

pub returns-clause-either : goal.returns-clause-either
returns-clause-either c = either_way
