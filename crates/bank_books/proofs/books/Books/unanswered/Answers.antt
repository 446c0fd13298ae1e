use Rattle.std.proofs.Common.{◌≡◌, ◌∙◌, sym, ap, ℕ, List, length, map, take, min, reverse}
use Rattle.std.proofs.lemmas.List.{take-map, take_all, take_min}
use Rattle.bank_books.specs.declared.rows.OpenDraft.{OpenDraft}
use Rattle.bank_books.specs.Drafts.{open_drafts, unanswered}
use Rattle.bank_books.specs.State.{BankList}
use Rattle.bank_books.proofs.Waiting.{rows_places}
use Rattle.bank_books.proofs.books.Books.unanswered.Goals as goal

pub returns : goal.returns
returns c =
    let rows : List OpenDraft = c.as_slice-unanswered.result.now in
    let place = λ (d : OpenDraft). d.place in
    let fewest : c.min-count.result ≡ min c.args.limit (length rows) = c.min-count.ensures in
    c.loop-draft.invariant
    ∙ ap (map place) (take_all c.loop-draft.draft-index (take c.min-count.result rows) c.loop-draft-test.false
    ∙ ap (λ (n : ℕ). take n rows) fewest
    ∙ take_min c.args.limit rows)
    ∙ sym (take-map place c.args.limit rows)
    ∙ ap (λ (l : List OpenDraft). take c.args.limit (map place l)) (c.as_slice-unanswered.ensures.value ∙ c.self.invariant.2.unanswered)
    ∙ ap (take c.args.limit) (rows_places (open_drafts (reverse c.self.inside.entries.items)))
    ∙ ap (λ (b : BankList). unanswered c.args.limit b.entries) c.self.view_is
