use Rattle.bank_books.proofs.InOrder.{drafts_in_order}
use Rattle.bank_turns.specs.BankSteps.{adds_to, bank_step}
use Rattle.bank_turns.proofs.Following.{step_lawful}
use Rattle.bank_turns.proofs.laws.steps_number_in_order.Goals as goal

pub returns : goal.returns
returns c o es f date lawful = drafts_in_order o (adds_to (bank_step o es f).adds es) date (step_lawful o es f lawful)
