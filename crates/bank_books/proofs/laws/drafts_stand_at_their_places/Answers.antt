use Rattle.bank_books.proofs.Numbers.{at_its_place, so_many}
use Rattle.bank_books.proofs.laws.drafts_stand_at_their_places.Goals as goal

pub returns-clause-places : goal.returns-clause-places
returns-clause-places c = at_its_place

pub returns-clause-told : goal.returns-clause-told
returns-clause-told c = so_many
