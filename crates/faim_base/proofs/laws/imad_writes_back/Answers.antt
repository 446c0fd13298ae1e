use Rattle.faim_base.proofs.IdLemmas.{imad_text-read_imad}
use Rattle.faim_base.proofs.laws.imad_writes_back.Goals as goal

pub returns : goal.returns
returns c = imad_text-read_imad
