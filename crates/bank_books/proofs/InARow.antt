-- Each output of an inbox stands right after the one before it.
use Rattle.std.proofs.Common.{◌≡◌, ⊎_elim, refl, sym, ◌∙◌, ap, subst, ℕ, ◌+◌, ◌<◌, true, List, [], ◌∷◌, ◌++◌, Option, Some, None, arith}
use Rattle.std.specs.List.{Contains}
use Rattle.std.proofs.lemmas.Bool.Decides.{nat_tests}
use Rattle.faim_base.specs.declared.ids.OutPos.{OutPos}
use Rattle.bank_books.specs.declared.entries.BankEntry.{BankEntry}
use Rattle.bank_books.specs.declared.entries.BankEntry.TheVariants.{Drafted, Answered, Received}
use Rattle.bank_books.specs.declared.entries.BankOpening.{BankOpening}
use Rattle.bank_books.specs.declared.outcomes.OutCase.TheVariants as out
use Rattle.bank_books.specs.Inbox.{InboxItem, inbox, is_before, out_case, wanted}
use Rattle.bank_books.specs.Lawful.{LawfulBank, ReceivedFollows, StandInARow, right_after}
use Rattle.bank_books.proofs.Members.{before_or_last, none_in}

-- the position right after the last of some outputs
abbrev after_all : OutPos → List InboxItem → OutPos
after_all first [] = first
after_all first (i ∷ items) = after_all (right_after i.at i.next) items

row_more : (first : OutPos) (items : List InboxItem) (i : InboxItem) → i.at ≡ after_all first items → StandInARow first items → StandInARow first (items ++ i ∷ [])
row_more first [] i at row = (at, tt)
row_more first (j ∷ items) i at row = (row.0, row_more (right_after j.at j.next) items i at row.1)

after_more : (first : OutPos) (items : List InboxItem) (i : InboxItem) → after_all first (items ++ i ∷ []) ≡ right_after i.at i.next
after_more first [] i = refl
after_more first (j ∷ items) i = after_more (right_after j.at j.next) items i

-- the wanted position is right after what was received last
pub wanted_after : (o : BankOpening) (older : List BankEntry) (at : OutPos) (text : List ℕ) (next : Option ℕ) → ReceivedFollows o older at next
    → wanted o (Received at text next ∷ older) ≡ right_after at next
wanted_after o older at text (Some date) follows = refl
wanted_after o older at text None follows = ap (λ (p : OutPos). record { date = p.date; seq = at.seq + 1 }) (sym follows.position)

wanted_last : (o : BankOpening) (es : List BankEntry) → LawfulBank o es → wanted o es ≡ after_all (record { date = o.date; seq = 1 }) (inbox es)
wanted_last o [] lawful = refl
wanted_last o (Drafted imad text ∷ older) lawful = wanted_last o older lawful.1
wanted_last o (Answered imad verdict ∷ older) lawful = wanted_last o older lawful.1
wanted_last o (Received at text next ∷ older) lawful =
    wanted_after o older at text next lawful.0
    ∙ sym (after_more (record { date = o.date; seq = 1 }) (inbox older) (record { at = at; text = text; next = next }))

pub in_a_row : (o : BankOpening) (es : List BankEntry) → LawfulBank o es → StandInARow (record { date = o.date; seq = 1 }) (inbox es)
in_a_row o [] lawful = tt
in_a_row o (Drafted imad text ∷ older) lawful = in_a_row o older lawful.1
in_a_row o (Answered imad verdict ∷ older) lawful = in_a_row o older lawful.1
in_a_row o (Received at text next ∷ older) lawful =
    row_more (record { date = o.date; seq = 1 }) (inbox older) (record { at = at; text = text; next = next })
    (lawful.0.position ∙ wanted_last o older lawful.1) (in_a_row o older lawful.1)

-- a position before one is before the one right after that
own_before : (at : OutPos) (next : Option ℕ) → ((date : ℕ) → next ≡ Some date → at.date < date) → is_before at (right_after at next) ≡ true
own_before at None later = grind (arith, nat_tests)
own_before at (Some date) later = let rising : at.date < date = later date refl in grind (arith, nat_tests)

still_before : (p at : OutPos) (next : Option ℕ) → ((date : ℕ) → next ≡ Some date → at.date < date) → is_before p at ≡ true → is_before p (right_after at next) ≡ true
still_before p at None later before = grind (arith, nat_tests, before)
still_before p at (Some date) later before = let rising : at.date < date = later date refl in grind (arith, nat_tests, before)

rises : (o : BankOpening) (older : List BankEntry) (at : OutPos) (next : Option ℕ) → ReceivedFollows o older at next → (date : ℕ) → next ≡ Some date → at.date < date
rises o older at (Some later) follows date is = let same : later ≡ date = cc in subst (λ (d : ℕ). at.date < d) same follows.date.0
rises o older at None follows date is = absurd cc

-- each position of the inbox is before the wanted one
pub all_before : (o : BankOpening) (es : List BankEntry) (i : InboxItem) → LawfulBank o es → Contains (inbox es) i → is_before i.at (wanted o es) ≡ true
all_before o [] i lawful there = absurd (none_in i there)
all_before o (Drafted imad text ∷ older) i lawful there = all_before o older i lawful.1 there
all_before o (Answered imad verdict ∷ older) i lawful there = all_before o older i lawful.1 there
all_before o (Received at text next ∷ older) i lawful there =
    let new : InboxItem = record { at = at; text = text; next = next } in
    let rising = rises o older at next lawful.0 in
    subst (λ (p : OutPos). is_before i.at p ≡ true) (sym (wanted_after o older at text next lawful.0))
    (⊎_elim (λ (old : Contains (inbox older) i). still_before i.at at next rising
    (subst (λ (p : OutPos). is_before i.at p ≡ true) (sym lawful.0.position) (all_before o older i lawful.1 old)))
    (λ (last : i ≡ new). subst (λ (j : InboxItem). is_before j.at (right_after at next) ≡ true) (sym last) (own_before at next rising))
    (before_or_last new i (inbox older) there))

pub inbox_repeated : (o : BankOpening) (es : List BankEntry) (i : InboxItem) → LawfulBank o es → Contains (inbox es) i → out_case o es i.at ≡ out.Repeated
inbox_repeated o es i lawful there = rw (all_before o es i lawful there) refl
