use Rattle.std.proofs.Common.{◌∙◌, ap, arith, get_or, reverse, option_map}
use Rattle.std.specs.List.{slice_get}
use Rattle.bank_books.specs.Inbox.{InboxItem, inbox}
use Rattle.bank_books.specs.Kept.{received_text}
use Rattle.bank_books.specs.State.{BankList}
use Rattle.bank_books.proofs.Found.{entry_within, no_output, output_found, text_there}
use Rattle.bank_books.proofs.books.Books.received.Goals as goal

pub index-requires : goal.index-requires
index-requires c =
    let kept = c.self.inside.entries.items in
    let at = get_or c.as_slice-inbox.result.now c.args.place 0 in
    let stands = output_found kept c.as_slice-inbox.result.now c.args.place (c.as_slice-inbox.ensures.value ∙ c.self.invariant.2.received) c.if-place-inbox.true in
    omega (arith, entry_within kept at received_text (inbox (reverse kept)) (λ (i : InboxItem). i.text) c.args.place stands, c.self.inside.entries.ok)

pub returns-then-place-inbox : goal.returns-then-place-inbox
returns-then-place-inbox c =
    let kept = c.self.inside.entries.items in
    let at = get_or c.as_slice-inbox.result.now c.args.place 0 in
    let stands = output_found kept c.as_slice-inbox.result.now c.args.place (c.as_slice-inbox.ensures.value ∙ c.self.invariant.2.received) c.if-place-inbox.true in
    c.received_text.ensures
    ∙ ap received_text c.index.ensures
    ∙ text_there kept at received_text (inbox (reverse kept)) (λ (i : InboxItem). i.text) c.args.place stands c.index.result.now
    ∙ ap (λ (b : BankList). option_map (λ (i : InboxItem). i.text) (slice_get (inbox b.entries) c.args.place)) c.self.view_is

pub returns-else-place-inbox : goal.returns-else-place-inbox
returns-else-place-inbox c =
    no_output (reverse c.self.inside.entries.items) c.as_slice-inbox.result.now c.args.place (c.as_slice-inbox.ensures.value ∙ c.self.invariant.2.received) c.if-place-inbox.false
    ∙ ap (λ (b : BankList). option_map (λ (i : InboxItem). i.text) (slice_get (inbox b.entries) c.args.place)) c.self.view_is
