use Rattle.world_model.proofs.HostLands.{resume_safe}
use Rattle.world_model.proofs.Keeping.{bank_moment_safe, host_moment_safe}
use Rattle.world_model.proofs.laws.each_moment_of_a_step_is_safe.Goals as goal

pub returns-clause-host : goal.returns-clause-host
returns-clause-host c = host_moment_safe

pub returns-clause-bank : goal.returns-clause-bank
returns-clause-bank c = bank_moment_safe

pub returns-clause-resume : goal.returns-clause-resume
returns-clause-resume c = resume_safe
