use Rattle.bank_books.proofs.InARow.{in_a_row, wanted_after}
use Rattle.bank_books.proofs.InOrder.{received_in_order}
use Rattle.bank_books.proofs.laws.inboxes_have_no_hole.Goals as goal

pub returns-clause-row : goal.returns-clause-row
returns-clause-row c = in_a_row

pub returns-clause-wanted : goal.returns-clause-wanted
returns-clause-wanted c o older at text next lawful = (lawful.0.position, wanted_after o older at text next lawful.0)

pub returns-clause-numbers : goal.returns-clause-numbers
returns-clause-numbers c = received_in_order
