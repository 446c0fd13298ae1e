use Rattle.bank_turns.proofs.GivenTexts.{given_is_again, given_is_blank}
use Rattle.bank_turns.proofs.kept_laws.outputs_keep_their_texts.Goals as goal

pub returns-clause-blank : goal.returns-clause-blank
returns-clause-blank c = given_is_blank

pub returns-clause-again : goal.returns-clause-again
returns-clause-again c = given_is_again
