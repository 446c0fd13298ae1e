use Rattle.std.proofs.Common.{subst}
use Rattle.bank_texts.specs.declared.drafts.DraftRead.{DraftRead}
use Rattle.bank_texts.specs.Reads.{IsDraftRead}
use Rattle.bank_node.proofs.Numbered.{numbered_fits}
use Rattle.bank_node.proofs.drafting.draft.Goals as goal

pub number-requires-clause-fits : goal.number-requires-clause-fits
number-requires-clause-fits c imad next =
    let list = c.args.list.now in
    let read = subst (λ (r : DraftRead). IsDraftRead c.args.payload.now r) c.in-Message.is c.in_ok-read.ensures in
    numbered_fits list.opening list.entries c.args.payload.now c.in-Message.message imad c.books-books.ensures.sound read.0 next
