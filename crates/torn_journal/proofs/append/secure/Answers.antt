use Rattle.site_core.proofs.Runs.{goes_as, goes_on}
use Rattle.torn_journal.proofs.CallsOfAnAppend.{write_failed, then_synced}
use Rattle.torn_journal.proofs.append.secure.Goals as goal

pub returns-in_err-write_at-clause-told : goal.returns-in_err-write_at-clause-told
returns-in_err-write_at-clause-told g c = goes_as _ _ _ _ (λ x y p. write_failed c.args.at c.args.bytes.now c.in_err-write_at.field-0.0 c.from_residual.result c.from_residual.ensures.0 x y p) c.in_err-write_at.ensures.told

pub returns-clause-told : goal.returns-clause-told
returns-clause-told g c = goes_on _ _ _ _ _ _ (λ x y z p q. then_synced c.args.at c.args.bytes.now c.in_ok-write_at.field-0 c.sync.result x y z p q) c.in_ok-write_at.ensures.told c.sync.ensures.told
