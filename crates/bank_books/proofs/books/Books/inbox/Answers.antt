use Rattle.std.proofs.Common.{◌∙◌, ap, length, reverse}
use Rattle.bank_books.specs.Inbox.{inbox}
use Rattle.bank_books.specs.State.{BankList}
use Rattle.bank_books.proofs.Found.{as_many_outputs}
use Rattle.bank_books.proofs.books.Books.inbox.Goals as goal

pub returns : goal.returns
returns c =
    ap length (c.as_slice.ensures.value ∙ c.self.invariant.2.received)
    ∙ as_many_outputs (reverse c.self.inside.entries.items)
    ∙ ap (λ (b : BankList). length (inbox b.entries)) c.self.view_is
