-- The numbers of drafts and of outputs under a date are 1, 2, 3 and so on.
use Rattle.std.proofs.Common.{◌≡◌, refl, sym, ◌∙◌, ap, subst, ℕ, suc, ◌+◌, ◌<◌, ◌==◌, Bool, true, false, List, [], ◌∷◌, ◌++◌, length, map, if◌then◌else◌, Option, Some, None, arith, length-append}
use Rattle.std.proofs.lemmas.Bool.{eq-eqb, eqb-true}
use Rattle.std.proofs.lemmas.List.{append-nil, map-append}
use Rattle.std.proofs.lemmas.List.Elements.{filter-append}
use Rattle.faim_base.specs.declared.ids.OutPos.{OutPos}
use Rattle.bank_books.specs.declared.entries.BankEntry.{BankEntry}
use Rattle.bank_books.specs.declared.entries.BankEntry.TheVariants.{Drafted, Answered, Received}
use Rattle.bank_books.specs.declared.entries.BankOpening.{BankOpening}
use Rattle.bank_books.specs.Drafts.{Draft, drafts, drafts_of}
use Rattle.bank_books.specs.Inbox.{InboxItem, bank_cycle, inbox, wanted_number}
use Rattle.bank_books.specs.Lawful.{LawfulBank, draft_numbers, one_to, received_numbers, received_under}
use Rattle.bank_books.proofs.Counted.{apart, is_next, one_of}

-- the numbers of some items are 1, 2, 3 and so on
abbrev AreNumbered : {A : Type 0} → (A → ℕ) → List A → Type 0
AreNumbered number xs = map number xs ≡ one_to (length xs)

next_numbered : {A : Type 0} (number : A → ℕ) (xs : List A) (x : A) → number x ≡ length xs + 1 → AreNumbered number xs → AreNumbered number (xs ++ x ∷ [])
next_numbered number xs x next order =
    let more : length (xs ++ x ∷ []) ≡ suc (length xs) = omega (arith, length-append xs (x ∷ [])) in
    let own : number x ≡ suc (length xs) = omega (arith, next) in
    map-append number xs (x ∷ [])
    ∙ ap (λ (ns : List ℕ). ns ++ number x ∷ []) order
    ∙ ap (λ (n : ℕ). one_to (length xs) ++ n ∷ []) own
    ∙ sym (ap one_to more)

perhaps_numbered : {A : Type 0} (number : A → ℕ) (xs : List A) (x : A) (own : Bool) → (own ≡ true → number x ≡ length xs + 1)
    → AreNumbered number xs → AreNumbered number (xs ++ (if own then x ∷ [] else []))
perhaps_numbered number xs x true next order = next_numbered number xs x (next refl) order
perhaps_numbered number xs x false next order = subst (AreNumbered number) (sym (append-nil xs)) order

pub drafts_in_order : (o : BankOpening) (es : List BankEntry) (date : ℕ) → LawfulBank o es → draft_numbers date es ≡ one_to (length (drafts_of date es))
drafts_in_order o [] date lawful = refl
drafts_in_order o (Drafted imad text ∷ older) date lawful =
    let next = is_next o older imad lawful.0 in
    subst (AreNumbered (λ (d : Draft). d.imad.seq)) (sym (one_of date older imad text))
    (perhaps_numbered (λ (d : Draft). d.imad.seq) (drafts_of date older) (record { place = length (drafts older); imad = imad; text = text }) (imad.date == date)
    (λ same. next.number ∙ ap (λ (d : ℕ). length (drafts_of d older) + 1) (sym next.date ∙ eqb-true imad.date date same))
    (drafts_in_order o older date lawful.1))
drafts_in_order o (Answered imad verdict ∷ older) date lawful = drafts_in_order o older date lawful.1
drafts_in_order o (Received at text next ∷ older) date lawful = drafts_in_order o older date lawful.1

-- one output more
received_more : (date : ℕ) (older : List BankEntry) (at : OutPos) (text : List ℕ) (next : Option ℕ)
    → received_under date (Received at text next ∷ older)
    ≡ received_under date older ++ (if at.date == date then record { at = at; text = text; next = next } ∷ [] else [])
received_more date older at text next = filter-append (λ (i : InboxItem). i.at.date == date) (inbox older) (record { at = at; text = text; next = next } ∷ [])

none_under : (date : ℕ) (older : List BankEntry) (at : OutPos) (text : List ℕ) (next : Option ℕ) → at.date < date → received_under date older ≡ []
    → received_under date (Received at text next ∷ older) ≡ []
none_under date older at text next before none =
    received_more date older at text next
    ∙ ap (λ (b : Bool). received_under date older ++ (if b then record { at = at; text = text; next = next } ∷ [] else [])) (apart at.date date before)
    ∙ append-nil (received_under date older)
    ∙ none

-- nothing was received under a later date than the present cycle
pub none_received_later : (o : BankOpening) (es : List BankEntry) (date : ℕ) → LawfulBank o es → bank_cycle o es < date → received_under date es ≡ []
none_received_later o [] date lawful later = refl
none_received_later o (Drafted imad text ∷ older) date lawful later = none_received_later o older date lawful.1 later
none_received_later o (Answered imad verdict ∷ older) date lawful later = none_received_later o older date lawful.1 later
none_received_later o (Received at text None ∷ older) date lawful later =
    let same : at.date ≡ bank_cycle o older = ap (λ (p : OutPos). p.date) lawful.0.position in
    none_under date older at text None (omega (arith, same, later)) (none_received_later o older date lawful.1 later)
none_received_later o (Received at text (Some next) ∷ older) date lawful later =
    let same : at.date ≡ bank_cycle o older = ap (λ (p : OutPos). p.date) lawful.0.position in
    let rising : at.date < next = lawful.0.date.0 in
    none_under date older at text (Some next) (omega (arith, rising, later)) (none_received_later o older date lawful.1 (omega (arith, same, rising, later)))

own_received : (date : ℕ) (older : List BankEntry) (at : OutPos) (text : List ℕ) (next : Option ℕ) (own : Bool) → (at.date == date) ≡ own → own ≡ true
    → length (received_under date (Received at text next ∷ older)) ≡ length (received_under date older) + 1
own_received date older at text next false test own = absurd cc
own_received date older at text next true test own =
    ap length (received_more date older at text next
    ∙ ap (λ (b : Bool). received_under date older ++ (if b then record { at = at; text = text; next = next } ∷ [] else [])) test)
    ∙ length-append (received_under date older) (record { at = at; text = text; next = next } ∷ [])

-- the wanted number is one more than what was received in the present cycle
pub wanted_counts : (o : BankOpening) (es : List BankEntry) → LawfulBank o es → wanted_number es ≡ length (received_under (bank_cycle o es) es) + 1
wanted_counts o [] lawful = refl
wanted_counts o (Drafted imad text ∷ older) lawful = wanted_counts o older lawful.1
wanted_counts o (Answered imad verdict ∷ older) lawful = wanted_counts o older lawful.1
wanted_counts o (Received at text None ∷ older) lawful =
    let date : at.date ≡ bank_cycle o older = ap (λ (p : OutPos). p.date) lawful.0.position in
    let number : at.seq ≡ wanted_number older = ap (λ (p : OutPos). p.seq) lawful.0.position in
    let more : length (received_under (bank_cycle o older) (Received at text None ∷ older)) ≡ length (received_under (bank_cycle o older) older) + 1 =
    own_received (bank_cycle o older) older at text None (at.date == bank_cycle o older) refl (eq-eqb at.date (bank_cycle o older) date) in
    omega (arith, number, more, wanted_counts o older lawful.1)
wanted_counts o (Received at text (Some next) ∷ older) lawful =
    let date : at.date ≡ bank_cycle o older = ap (λ (p : OutPos). p.date) lawful.0.position in
    let rising : at.date < next = lawful.0.date.0 in
    let none : received_under next (Received at text (Some next) ∷ older) ≡ [] =
    none_under next older at text (Some next) rising (none_received_later o older next lawful.1 (omega (arith, date, rising))) in
    let nothing : length (received_under next (Received at text (Some next) ∷ older)) ≡ 0 = ap length none in
    omega (arith, nothing)

pub received_in_order : (o : BankOpening) (es : List BankEntry) (date : ℕ) → LawfulBank o es → received_numbers date es ≡ one_to (length (received_under date es))
received_in_order o [] date lawful = refl
received_in_order o (Drafted imad text ∷ older) date lawful = received_in_order o older date lawful.1
received_in_order o (Answered imad verdict ∷ older) date lawful = received_in_order o older date lawful.1
received_in_order o (Received at text next ∷ older) date lawful =
    let own : at.date ≡ bank_cycle o older = ap (λ (p : OutPos). p.date) lawful.0.position in
    let number : at.seq ≡ wanted_number older = ap (λ (p : OutPos). p.seq) lawful.0.position in
    subst (AreNumbered (λ (i : InboxItem). i.at.seq)) (sym (received_more date older at text next))
    (perhaps_numbered (λ (i : InboxItem). i.at.seq) (received_under date older) (record { at = at; text = text; next = next }) (at.date == date)
    (λ same. number ∙ wanted_counts o older lawful.1 ∙ ap (λ (d : ℕ). length (received_under d older) + 1) (sym own ∙ eqb-true at.date date same))
    (received_in_order o older date lawful.1))
