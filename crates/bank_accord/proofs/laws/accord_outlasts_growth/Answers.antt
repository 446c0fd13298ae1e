use Rattle.bank_accord.proofs.Growing.{accord_outlasts, trust_outlasts}
use Rattle.bank_accord.proofs.laws.accord_outlasts_growth.Goals as goal

pub returns-clause-accord : goal.returns-clause-accord
returns-clause-accord c = accord_outlasts

pub returns-clause-trust : goal.returns-clause-trust
returns-clause-trust c = trust_outlasts
