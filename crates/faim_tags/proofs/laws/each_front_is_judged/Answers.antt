use Rattle.faim_tags.proofs.Judgements.{each_front}
use Rattle.faim_tags.proofs.laws.each_front_is_judged.Goals as goal

pub returns : goal.returns
returns c numbers bytes some listed = each_front numbers bytes (record { some = some; listed = listed })
