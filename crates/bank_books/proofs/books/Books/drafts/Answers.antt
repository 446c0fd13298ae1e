use Rattle.std.proofs.Common.{◌∙◌, ap, length, reverse}
use Rattle.bank_books.specs.Drafts.{drafts}
use Rattle.bank_books.specs.State.{BankList}
use Rattle.bank_books.proofs.Found.{as_many_drafts}
use Rattle.bank_books.proofs.books.Books.drafts.Goals as goal

pub returns : goal.returns
returns c =
    ap length (c.as_slice.ensures.value ∙ c.self.invariant.2.drafted)
    ∙ as_many_drafts (reverse c.self.inside.entries.items)
    ∙ ap (λ (b : BankList). length (drafts b.entries)) c.self.view_is
