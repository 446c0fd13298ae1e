use Rattle.faim_base.proofs.IdLemmas.{omad_text-read_omad}
use Rattle.faim_base.proofs.laws.omad_writes_back.Goals as goal

pub returns : goal.returns
returns c = omad_text-read_omad
