use Rattle.bank_books.proofs.InOrder.{drafts_in_order}
use Rattle.bank_books.proofs.Numbers.{own_source}
use Rattle.bank_books.proofs.laws.drafts_are_numbered_in_order.Goals as goal

pub returns-clause-numbers : goal.returns-clause-numbers
returns-clause-numbers c = drafts_in_order

pub returns-clause-source : goal.returns-clause-source
returns-clause-source c = own_source
