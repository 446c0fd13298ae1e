use Rattle.std.proofs.Common.{◌∙◌, ap, length, reverse}
use Rattle.std.proofs.lemmas.List.{length-map}
use Rattle.bank_books.specs.Drafts.{Draft, open_drafts}
use Rattle.bank_books.specs.State.{BankList}
use Rattle.bank_books.proofs.books.Books.open_count.Goals as goal

pub returns : goal.returns
returns c =
    ap length (c.as_slice.ensures.value ∙ c.self.invariant.2.unanswered)
    ∙ length-map (open_drafts (reverse c.self.inside.entries.items)) (λ (d : Draft). record { imad = d.imad; place = d.place })
    ∙ ap (λ (b : BankList). length (open_drafts b.entries)) c.self.view_is
