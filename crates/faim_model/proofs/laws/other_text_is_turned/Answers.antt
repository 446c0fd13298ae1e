use Rattle.faim_model.proofs.Again.{other_turned_away}
use Rattle.faim_model.proofs.laws.other_text_is_turned.Goals as goal

pub returns : goal.returns
returns c config es h body resent moment v reading text own other mark failed lawful there is imad apart =
    other_turned_away config es h body resent moment v reading text own other mark failed lawful there is imad apart
