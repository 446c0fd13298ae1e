use Rattle.std.proofs.Common.{◌≡◌, map, take}
use Rattle.bank_books.specs.declared.rows.OpenDraft.{OpenDraft}
use Rattle.bank_books.proofs.books.Books.unanswered.Given as goal

-- the places of the drafts so far
abbrev pub invariant-loop-draft : goal.invariant-loop-draft
invariant-loop-draft l = l.places ≡ map (λ (d : OpenDraft). d.place) (take l.draft-index l.draft-items)
