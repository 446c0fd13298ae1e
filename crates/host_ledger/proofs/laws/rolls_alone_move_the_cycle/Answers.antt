use Rattle.std.specs.Prelude.{refl}
use Rattle.host_ledger.proofs.laws.rolls_alone_move_the_cycle.Goals as goal

pub returns-clause-opening : goal.returns-clause-opening
returns-clause-opening c = λ config. refl

pub returns-clause-rolled : goal.returns-clause-rolled
returns-clause-rolled c = λ config older moment date. refl

pub returns-clause-posted : goal.returns-clause-posted
returns-clause-posted c = λ config older h body resent moment v. refl
