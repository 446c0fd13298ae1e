use Rattle.faim_top.proofs.Endings.{one_answer, some_answer}
use Rattle.faim_top.proofs.laws.inputs_have_one_answer.Goals as goal

pub returns-clause-some : goal.returns-clause-some
returns-clause-some c = some_answer c.each_input_is_judged.ensures

pub returns-clause-one : goal.returns-clause-one
returns-clause-one c = one_answer c.one_spelling_of_messages.ensures.message c.spelled_is_not_refused.ensures c.one_refusal.ensures
