use Rattle.faim_tags.proofs.Meaning.{found-one}
use Rattle.faim_tags.proofs.laws.one_tag_in_front.Goals as goal

pub returns : goal.returns
returns c numbers bytes v w n m h k = found-one numbers bytes v w n m h k
