use Rattle.faim_model.proofs.Outside.{turned_by_four}
use Rattle.faim_model.proofs.frame_laws.four_refusals_turn_away.Goals as goal

pub returns : goal.returns
returns c config es f m sound lawful in_calendar covered is read tells =
    turned_by_four config es sound lawful in_calendar f m covered is read tells
