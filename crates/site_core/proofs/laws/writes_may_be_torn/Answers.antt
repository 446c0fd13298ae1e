use Rattle.site_core.proofs.Freedoms.{torn_write, found_reads}
use Rattle.site_core.proofs.laws.writes_may_be_torn.Goals as goal

pub returns-clause-torn : goal.returns-clause-torn
returns-clause-torn c = torn_write

pub returns-clause-failed_torn : goal.returns-clause-failed_torn
returns-clause-failed_torn c = λ at bytes found left more log image. torn_write at bytes left more log image

pub returns-clause-found : goal.returns-clause-found
returns-clause-found c = found_reads
