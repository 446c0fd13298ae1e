use Rattle.std.proofs.Common.{◌∙◌, ap, reverse}
use Rattle.std.specs.List.{list_any}
use Rattle.bank_books.specs.declared.rows.DraftAt.{DraftAt}
use Rattle.bank_books.specs.Drafts.{is_drafted, same_imad}
use Rattle.bank_books.specs.State.{BankList}
use Rattle.bank_books.proofs.Waiting.{drafts_have}
use Rattle.bank_books.proofs.books.Books.is_drafted.Goals as goal

pub returns : goal.returns
returns c =
    c.is_among_drafts.ensures
    ∙ ap (list_any (λ (d : DraftAt). same_imad d.imad c.args.imad.now)) (c.as_slice.ensures.value ∙ c.self.invariant.2.drafted)
    ∙ drafts_have c.args.imad.now (reverse c.self.inside.entries.items)
    ∙ ap (λ (b : BankList). is_drafted c.args.imad.now b.entries) c.self.view_is
