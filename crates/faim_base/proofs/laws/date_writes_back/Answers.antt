use Rattle.faim_base.proofs.DateLemmas.{date_text-read_date}
use Rattle.faim_base.proofs.laws.date_writes_back.Goals as goal

pub returns : goal.returns
returns c = date_text-read_date
