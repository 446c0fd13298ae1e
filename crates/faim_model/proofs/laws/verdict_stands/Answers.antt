use Rattle.std.proofs.Common.{refl}
use Rattle.faim_model.proofs.Again.{told_as_before}
use Rattle.faim_model.proofs.laws.verdict_stands.Goals as goal

pub returns : goal.returns
returns c config es h body resent moment v reading text own mark failed lawful there is imad =
    told_as_before config es h body resent moment v reading text own body mark failed lawful there is imad refl
