use Rattle.std.proofs.Common.{◌∙◌, ap, arith, get_or, reverse, option_map}
use Rattle.std.specs.List.{slice_get}
use Rattle.bank_books.specs.declared.rows.DraftAt.{DraftAt}
use Rattle.bank_books.specs.Drafts.{Draft, drafts}
use Rattle.bank_books.specs.Kept.{draft_text}
use Rattle.bank_books.specs.State.{BankList}
use Rattle.bank_books.proofs.Found.{draft_found, entry_within, no_draft, text_there}
use Rattle.bank_books.proofs.books.Books.draft.Goals as goal

pub index-requires : goal.index-requires
index-requires c =
    let kept = c.self.inside.entries.items in
    let row : DraftAt = get_or c.as_slice-drafts.result.now c.args.place c.index-drafts-place.result in
    let stands = draft_found kept c.as_slice-drafts.result.now c.args.place row
    (c.as_slice-drafts.ensures.value ∙ c.self.invariant.2.drafted) c.if-place-drafts.true (ap (get_or c.as_slice-drafts.result.now c.args.place) c.index-drafts-place.is) in
    omega (arith, entry_within kept row.entry draft_text (drafts (reverse kept)) (λ (d : Draft). d.text) c.args.place stands, c.self.inside.entries.ok)

pub returns-then-place-drafts : goal.returns-then-place-drafts
returns-then-place-drafts c =
    let kept = c.self.inside.entries.items in
    let row : DraftAt = get_or c.as_slice-drafts.result.now c.args.place c.index-drafts-place.result in
    let stands = draft_found kept c.as_slice-drafts.result.now c.args.place row
    (c.as_slice-drafts.ensures.value ∙ c.self.invariant.2.drafted) c.if-place-drafts.true (ap (get_or c.as_slice-drafts.result.now c.args.place) c.index-drafts-place.is) in
    c.draft_text.ensures
    ∙ ap draft_text c.index.ensures
    ∙ text_there kept row.entry draft_text (drafts (reverse kept)) (λ (d : Draft). d.text) c.args.place stands c.index.result.now
    ∙ ap (λ (b : BankList). option_map (λ (d : Draft). d.text) (slice_get (drafts b.entries) c.args.place)) c.self.view_is

pub returns-else-place-drafts : goal.returns-else-place-drafts
returns-else-place-drafts c =
    no_draft (reverse c.self.inside.entries.items) c.as_slice-drafts.result.now c.args.place (c.as_slice-drafts.ensures.value ∙ c.self.invariant.2.drafted) c.if-place-drafts.false
    ∙ ap (λ (b : BankList). option_map (λ (d : Draft). d.text) (slice_get (drafts b.entries) c.args.place)) c.self.view_is
