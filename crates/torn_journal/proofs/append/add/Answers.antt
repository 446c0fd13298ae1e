use Rattle.site_core.proofs.Runs.{goes_on}
use Rattle.torn_journal.proofs.CallsOfAnAppend.{then_opened}
use Rattle.torn_journal.proofs.append.add.Goals as goal

pub returns-clause-told : goal.returns-clause-told
returns-clause-told g c = goes_on _ _ _ _ _ _ (λ x y z p q. then_opened c.args.tail c.args.framed.now c.in_ok-secure.field-0 c.secure-2.result x y z p q) c.in_ok-secure.ensures.told c.secure-2.ensures.told
