use Rattle.bank_books.proofs.AnsweredOnce.{fresh_draft, repeated}
use Rattle.bank_books.proofs.InARow.{inbox_repeated}
use Rattle.bank_books.proofs.laws.what_came_is_repeated.Goals as goal

pub returns-clause-verdict : goal.returns-clause-verdict
returns-clause-verdict c = repeated

pub returns-clause-output : goal.returns-clause-output
returns-clause-output c = inbox_repeated

pub returns-clause-draft : goal.returns-clause-draft
returns-clause-draft c = fresh_draft
