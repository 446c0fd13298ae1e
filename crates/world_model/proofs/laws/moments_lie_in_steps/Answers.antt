use Rattle.world_model.proofs.BankMoments.{bank_lies}
use Rattle.world_model.proofs.Ends.{begin_lies, end_lies}
use Rattle.world_model.proofs.HostMoments.{host_lies, resume_lies}
use Rattle.world_model.proofs.RestartMoments.{again_lies, restart_lies}
use Rattle.world_model.proofs.laws.moments_lie_in_steps.Goals as goal

pub returns-clause-begin : goal.returns-clause-begin
returns-clause-begin c = begin_lies

pub returns-clause-end : goal.returns-clause-end
returns-clause-end c = end_lies

pub returns-clause-host : goal.returns-clause-host
returns-clause-host c w event step kept n about in_order by = host_lies w event step about kept n in_order by

pub returns-clause-bank : goal.returns-clause-bank
returns-clause-bank c w event e step kept n about in_order by = bank_lies w e step event about kept n in_order by

pub returns-clause-resume : goal.returns-clause-resume
returns-clause-resume c w event step call fate sent n about is stop = resume_lies w event step about call fate sent n is stop

pub returns-clause-restart : goal.returns-clause-restart
returns-clause-restart c w event n about = restart_lies w event about n

pub returns-clause-again : goal.returns-clause-again
returns-clause-again c w event call fate sent n about is stop = again_lies w event about call fate sent n is stop
