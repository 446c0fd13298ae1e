use Rattle.faim_base.proofs.IdLemmas.{length-position_text, read_position-position_text}
use Rattle.faim_base.proofs.laws.position_reads_back.Goals as goal

pub returns : goal.returns
returns c = λ p h. (length-position_text p, read_position-position_text p h)
