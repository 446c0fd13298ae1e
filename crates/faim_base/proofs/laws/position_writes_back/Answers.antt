use Rattle.faim_base.proofs.IdLemmas.{position_text-read_position}
use Rattle.faim_base.proofs.laws.position_writes_back.Goals as goal

pub returns : goal.returns
returns c = position_text-read_position
