use Rattle.faim_base.proofs.IdLemmas.{length-omad_text, read_omad-omad_text}
use Rattle.faim_base.proofs.laws.omad_reads_back.Goals as goal

pub returns : goal.returns
returns c = λ o h. (length-omad_text o h, read_omad-omad_text o h)
