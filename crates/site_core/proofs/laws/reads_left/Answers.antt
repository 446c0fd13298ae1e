use Rattle.site_core.proofs.Moments.{leaves_reads, firm-reads}
use Rattle.site_core.proofs.laws.reads_left.Goals as goal

pub returns-clause-left : goal.returns-clause-left
returns-clause-left c = leaves_reads

pub returns-clause-long : goal.returns-clause-long
returns-clause-long c = firm-reads
