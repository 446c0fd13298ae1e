use Rattle.std.proofs.Common.{◌∙◌, ap, ◌&&◌, not, reverse}
use Rattle.std.specs.List.{list_any}
use Rattle.bank_books.specs.declared.rows.OpenDraft.{OpenDraft}
use Rattle.bank_books.specs.Drafts.{drafts, is_answered, is_drafted, open_drafts, same_imad}
use Rattle.bank_books.specs.State.{BankList}
use Rattle.bank_books.proofs.Waiting.{open_have, rows_have}
use Rattle.bank_books.proofs.books.Books.is_open.Goals as goal

pub returns : goal.returns
returns c =
    let es = reverse c.self.inside.entries.items in
    c.is_among_open.ensures
    ∙ ap (list_any (λ (d : OpenDraft). same_imad d.imad c.args.imad.now)) (c.as_slice.ensures.value ∙ c.self.invariant.2.unanswered)
    ∙ rows_have c.args.imad.now (open_drafts es)
    ∙ open_have c.args.imad.now es (drafts es)
    ∙ ap (λ (b : BankList). is_drafted c.args.imad.now b.entries && not (is_answered c.args.imad.now b.entries)) c.self.view_is
