use Rattle.faim_model.proofs.Rising.{outputs_go_on, outputs_in_time}
use Rattle.faim_model.proofs.laws.outputs_rise.Goals as goal

pub returns-clause-rise : goal.returns-clause-rise
returns-clause-rise c config es e lawful = (outputs_go_on config es e lawful).rises

pub returns-clause-in_time : goal.returns-clause-in_time
returns-clause-in_time c = outputs_in_time
