-- What the numbers and places of drafts tell.
use Rattle.std.proofs.Common.{◌≡◌, ⊎_elim, refl, sym, ◌∙◌, ap, subst, ℕ, ◌+◌, ◌<◌, ◌≤◌, true, List, [], ◌∷◌, ◌++◌, length, map, min, Some, Ok, arith}
use Rattle.std.specs.List.{Contains, slice_get}
use Rattle.std.proofs.lemmas.List.{length-map, length-take}
use Rattle.std.proofs.lemmas.List.Folds.{list_any_at}
use Rattle.faim_base.specs.declared.ids.Imad.{Imad}
use Rattle.bank_books.specs.declared.entries.BankEntry.{BankEntry}
use Rattle.bank_books.specs.declared.entries.BankEntry.TheVariants.{Drafted, Answered, Received}
use Rattle.bank_books.specs.declared.entries.BankOpening.{BankOpening}
use Rattle.bank_books.specs.Drafts.{Draft, drafts, drafts_of, is_drafted, open_drafts, same_imad, unanswered}
use Rattle.bank_books.specs.Lawful.{LawfulBank}
use Rattle.bank_books.specs.Numbering.{next_imad}
use Rattle.bank_books.proofs.Appended.{last_there, still_there}
use Rattle.bank_books.proofs.Counted.{is_next}
use Rattle.bank_books.proofs.Imads.{imads_pass}
use Rattle.bank_books.proofs.Members.{before_or_last, none_in}
use Rattle.bank_books.proofs.Waiting.{drafted_within}

pub own_source : (o : BankOpening) (es : List BankEntry) (d : Draft) → LawfulBank o es → Contains (drafts es) d → d.imad.source ≡ o.endpoint
own_source o [] d lawful there = absurd (none_in d there)
own_source o (Drafted imad text ∷ older) d lawful there =
    let new : Draft = record { place = length (drafts older); imad = imad; text = text } in
    ⊎_elim (λ (old : Contains (drafts older) d). own_source o older d lawful.1 old)
    (λ (last : d ≡ new). ap (λ (e : Draft). e.imad.source) last ∙ (is_next o older imad lawful.0).source)
    (before_or_last new d (drafts older) there)
own_source o (Answered imad verdict ∷ older) d lawful there = own_source o older d lawful.1 there
own_source o (Received at text next ∷ older) d lawful there = own_source o older d lawful.1 there

is_there : (es : List BankEntry) (d : Draft) → Contains (drafts es) d → is_drafted d.imad es ≡ true
is_there es d there =
    list_any_at (λ (e : Draft). same_imad e.imad d.imad) (drafts es) there.0 d there.1
    (ap (λ (e : Draft). same_imad e.imad d.imad) there.2 ∙ imads_pass d.imad d.imad refl)

pub below_next : (o : BankOpening) (es : List BankEntry) (imad : Imad) (d : Draft) → LawfulBank o es → next_imad o es ≡ Ok imad → Contains (drafts es) d
    → d.imad.date ≡ imad.date → d.imad.seq < imad.seq
below_next o es imad d lawful next there same =
    let own = is_next o es imad next in
    let few : d.imad.seq ≤ length (drafts_of d.imad.date es) = drafted_within o es d.imad lawful (is_there es d there) in
    let number : imad.seq ≡ length (drafts_of d.imad.date es) + 1 = own.number ∙ ap (λ (date : ℕ). length (drafts_of date es) + 1) (sym own.date ∙ sym same) in
    omega (arith, few, number)

pub at_its_place : (es : List BankEntry) (d : Draft) → Contains (drafts es) d → slice_get (drafts es) d.place ≡ Some d
at_its_place [] d there = absurd (none_in d there)
at_its_place (Drafted imad text ∷ older) d there =
    let new : Draft = record { place = length (drafts older); imad = imad; text = text } in
    ⊎_elim (λ (old : Contains (drafts older) d). still_there (drafts older) (new ∷ []) d.place d (at_its_place older d old))
    (λ (last : d ≡ new). subst (λ (e : Draft). slice_get (drafts older ++ new ∷ []) e.place ≡ Some e) (sym last) (last_there (drafts older) new))
    (before_or_last new d (drafts older) there)
at_its_place (Answered imad verdict ∷ older) d there = at_its_place older d there
at_its_place (Received at text next ∷ older) d there = at_its_place older d there

pub so_many : (es : List BankEntry) (limit : ℕ) → length (unanswered limit es) ≡ min limit (length (open_drafts es))
so_many es limit =
    length-take limit (map (λ (d : Draft). d.place) (open_drafts es)) ∙ ap (min limit) (length-map (open_drafts es) (λ (d : Draft). d.place))
