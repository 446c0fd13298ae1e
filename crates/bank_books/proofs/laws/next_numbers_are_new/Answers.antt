use Rattle.bank_books.proofs.Counted.{drafts_fit, none_later}
use Rattle.bank_books.proofs.Numbers.{below_next}
use Rattle.bank_books.proofs.Waiting.{next_is_new}
use Rattle.bank_books.proofs.laws.next_numbers_are_new.Goals as goal

pub returns-clause-above : goal.returns-clause-above
returns-clause-above c = below_next

pub returns-clause-new : goal.returns-clause-new
returns-clause-new c = next_is_new

pub returns-clause-in_time : goal.returns-clause-in_time
returns-clause-in_time c = none_later

pub returns-clause-few : goal.returns-clause-few
returns-clause-few c = drafts_fit
