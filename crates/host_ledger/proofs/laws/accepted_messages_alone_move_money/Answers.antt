use Rattle.std.specs.Prelude.{refl}
use Rattle.host_ledger.proofs.laws.accepted_messages_alone_move_money.Goals as goal

pub returns-clause-accepted : goal.returns-clause-accepted
returns-clause-accepted c = λ h body resent moment dest seq aba. (refl, refl)

pub returns-clause-refused : goal.returns-clause-refused
returns-clause-refused c = λ h body resent moment why aba. (refl, refl)

pub returns-clause-rolled : goal.returns-clause-rolled
returns-clause-rolled c = λ moment date aba. (refl, refl)
