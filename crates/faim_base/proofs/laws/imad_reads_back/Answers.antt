use Rattle.faim_base.proofs.IdLemmas.{length-imad_text, read_imad-imad_text}
use Rattle.faim_base.proofs.laws.imad_reads_back.Goals as goal

pub returns : goal.returns
returns c = λ i h. (length-imad_text i h, read_imad-imad_text i h)
