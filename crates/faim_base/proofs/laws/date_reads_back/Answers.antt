use Rattle.faim_base.proofs.DateLemmas.{length-date_text, read_date-date_text}
use Rattle.faim_base.proofs.laws.date_reads_back.Goals as goal

pub returns : goal.returns
returns c = record { length = length-date_text; value = read_date-date_text }
