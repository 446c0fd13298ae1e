-- The drafts for which no verdict came.
use Rattle.std.proofs.Common.{◌≡◌, refl, sym, ◌∙◌, ap, subst, ℕ, ◌+◌, ◌≤◌, ◌&&◌, ◌||◌, not, Bool, true, false, List, [], ◌∷◌, ◌++◌, length, map, filter, if◌then◌else◌, Option, Some, None, is_some, Ok, arith}
use Rattle.std.specs.List.{list_any}
use Rattle.std.proofs.lemmas.List.Elements.{filter-append}
use Rattle.std.proofs.lemmas.List.Folds.{list_any-append}
use Rattle.faim_base.specs.declared.ids.Imad.{Imad}
use Rattle.faim_base.specs.declared.judgement.Verdict.{Verdict}
use Rattle.bank_books.specs.declared.entries.BankEntry.{BankEntry}
use Rattle.bank_books.specs.declared.entries.BankEntry.TheVariants.{Drafted, Answered, Received}
use Rattle.bank_books.specs.declared.entries.BankOpening.{BankOpening}
use Rattle.bank_books.specs.declared.outcomes.AckCase.TheVariants as ack
use Rattle.bank_books.specs.declared.rows.DraftAt.{DraftAt}
use Rattle.bank_books.specs.declared.rows.OpenDraft.{OpenDraft}
use Rattle.bank_books.specs.Drafts.{Draft, ack_case, drafts, drafts_of, is_answered, is_drafted, is_open, open_drafts, same_imad, verdict_of}
use Rattle.bank_books.specs.Kept.{drafts_at, open_rows}
use Rattle.bank_books.specs.Lawful.{LawfulBank}
use Rattle.bank_books.specs.Numbering.{next_imad}
use Rattle.bank_books.proofs.Counted.{count_of, is_next, own_counts}
use Rattle.bank_books.proofs.Imads.{either_order, imads_equal}

-- what an acknowledgement that is fresh says
pub record IsFresh (es : List BankEntry) (imad : Imad) : Type 0 where
  pub drafted : is_drafted imad es ≡ true
  pub unanswered : is_answered imad es ≡ false

fresh_by : (there kept : Bool) (es : List BankEntry) (imad : Imad) → is_drafted imad es ≡ there → is_answered imad es ≡ kept
    → (if not there then ack.Strange else if kept then ack.Repeated else ack.Fresh) ≡ ack.Fresh → IsFresh es imad
fresh_by true false es imad there kept is = record { drafted = there; unanswered = kept }
fresh_by true true es imad there kept is = absurd cc
fresh_by false kept es imad there answered is = absurd cc

pub is_fresh : (es : List BankEntry) (imad : Imad) → ack_case es imad ≡ ack.Fresh → IsFresh es imad
is_fresh es imad is = fresh_by (is_drafted imad es) (is_answered imad es) es imad refl refl is

pub fresh_from : (es : List BankEntry) (imad : Imad) → is_drafted imad es ≡ true → is_answered imad es ≡ false → ack_case es imad ≡ ack.Fresh
fresh_from es imad there kept = rw (there, kept) refl

-- a draft more has its IMAD, and the others as before
pub drafted_more : (imad own : Imad) (text : List ℕ) (older : List BankEntry) → is_drafted imad (Drafted own text ∷ older) ≡ (is_drafted imad older || same_imad own imad)
drafted_more imad own text older =
    list_any-append (λ (d : Draft). same_imad d.imad imad) (drafts older) (record { place = length (drafts older); imad = own; text = text } ∷ [])
    ∙ ap (λ (b : Bool). is_drafted imad older || b) (alone (same_imad own imad))
  where
    alone : (b : Bool) → (b || false) ≡ b
    alone true = refl
    alone false = refl

-- an IMAD of a draft has a number up to the drafts of its date
within_by : (o : BankOpening) (own imad : Imad) (text : List ℕ) (older : List BankEntry) (here there : Bool) → LawfulBank o (Drafted own text ∷ older)
    → same_imad own imad ≡ here → is_drafted imad older ≡ there → (there || here) ≡ true
    → (there ≡ true → imad.seq ≤ length (drafts_of imad.date older)) → imad.seq ≤ length (drafts_of imad.date (Drafted own text ∷ older))
within_by o own imad text older here true lawful is before some rest =
    let more = count_of imad.date older own text in
    let few : imad.seq ≤ length (drafts_of imad.date older) = rest refl in
    omega (arith, more, few)
within_by o own imad text older true false lawful is before some rest =
    let next = is_next o older own lawful.0 in
    subst (λ (i : Imad). i.seq ≤ length (drafts_of i.date (Drafted own text ∷ older))) (imads_equal own imad is)
    (let more : length (drafts_of own.date (Drafted own text ∷ older)) ≡ length (drafts_of own.date older) + 1 = own_counts older own text own.date refl in
    let number : own.seq ≡ length (drafts_of own.date older) + 1 = next.number ∙ ap (λ (d : ℕ). length (drafts_of d older) + 1) (sym next.date) in
    omega (arith, more, number))
within_by o own imad text older false false lawful is before some rest = absurd cc

pub drafted_within : (o : BankOpening) (es : List BankEntry) (imad : Imad) → LawfulBank o es → is_drafted imad es ≡ true → imad.seq ≤ length (drafts_of imad.date es)
drafted_within o [] imad lawful some = absurd cc
drafted_within o (Drafted own text ∷ older) imad lawful some =
    within_by o own imad text older (same_imad own imad) (is_drafted imad older) lawful refl refl (sym (drafted_more imad own text older) ∙ some)
    (λ there. drafted_within o older imad lawful.1 there)
drafted_within o (Answered own verdict ∷ older) imad lawful some = drafted_within o older imad lawful.1 some
drafted_within o (Received at text next ∷ older) imad lawful some = drafted_within o older imad lawful.1 some

-- no draft has the next IMAD
new_by : (o : BankOpening) (es : List BankEntry) (imad : Imad) (there : Bool) → is_drafted imad es ≡ there → LawfulBank o es → next_imad o es ≡ Ok imad → is_drafted imad es ≡ false
new_by o es imad false is lawful next = is
new_by o es imad true is lawful next =
    let own = is_next o es imad next in
    let few : imad.seq ≤ length (drafts_of imad.date es) = drafted_within o es imad lawful is in
    let number : imad.seq ≡ length (drafts_of imad.date es) + 1 = own.number ∙ ap (λ (d : ℕ). length (drafts_of d es) + 1) (sym own.date) in
    absurd (omega (arith, few, number))

pub next_is_new : (o : BankOpening) (es : List BankEntry) (imad : Imad) → LawfulBank o es → next_imad o es ≡ Ok imad → is_drafted imad es ≡ false
next_is_new o es imad lawful next = new_by o es imad (is_drafted imad es) refl lawful next

-- only drafts have verdicts
undrafted_by : (own imad : Imad) (verdict : Verdict) (older : List BankEntry) (same : Bool) → same_imad own imad ≡ same → IsFresh older own
    → is_drafted imad older ≡ false → is_answered imad older ≡ false → is_some (if same then Some verdict else verdict_of imad older) ≡ false
undrafted_by own imad verdict older false is fresh none rest = rest
undrafted_by own imad verdict older true is fresh none rest =
    let drafted : is_drafted imad older ≡ true = subst (λ (i : Imad). is_drafted i older ≡ true) (imads_equal own imad is) fresh.drafted in
    let both : true ≡ false = sym drafted ∙ none in absurd cc

pub unanswered_unless_drafted : (o : BankOpening) (es : List BankEntry) (imad : Imad) → LawfulBank o es → is_drafted imad es ≡ false → is_answered imad es ≡ false
unanswered_unless_drafted o [] imad lawful none = refl
unanswered_unless_drafted o (Drafted own text ∷ older) imad lawful none =
    unanswered_unless_drafted o older imad lawful.1 (first (is_drafted imad older) (same_imad own imad) (sym (drafted_more imad own text older) ∙ none))
  where
    first : (a b : Bool) → (a || b) ≡ false → a ≡ false
    first false b is = refl
    first true b is = is
unanswered_unless_drafted o (Answered own verdict ∷ older) imad lawful none =
    undrafted_by own imad verdict older (same_imad own imad) refl (is_fresh older own lawful.0) none (unanswered_unless_drafted o older imad lawful.1 none)
unanswered_unless_drafted o (Received at text next ∷ older) imad lawful none = unanswered_unless_drafted o older imad lawful.1 none

-- a new draft has no verdict, and the others have theirs
pub open_more : (o : BankOpening) (older : List BankEntry) (imad : Imad) (text : List ℕ) → LawfulBank o (Drafted imad text ∷ older)
    → open_drafts (Drafted imad text ∷ older) ≡ open_drafts older ++ record { place = length (drafts older); imad = imad; text = text } ∷ []
open_more o older imad text lawful =
    let new : Draft = record { place = length (drafts older); imad = imad; text = text } in
    let none : is_answered imad older ≡ false = unanswered_unless_drafted o older imad lawful.1 (next_is_new o older imad lawful.1 lawful.0) in
    filter-append (is_open older) (drafts older) (new ∷ [])
    ∙ ap (λ (b : Bool). open_drafts older ++ (if not b then new ∷ [] else [])) none

-- a test that says what two say
twice_one : {A : Type 0} (p q r : A → Bool) (x : A) (xs : List A) (kept passes : Bool) → r x ≡ kept → q x ≡ passes → p x ≡ (kept && passes)
    → filter p xs ≡ filter q (filter r xs) → filter p (x ∷ xs) ≡ filter q (filter r (x ∷ xs))
twice_one p q r x xs true true kept passes both step = rw (both, kept) (rw passes (ap (λ l. x ∷ l) step))
twice_one p q r x xs true false kept passes both step = rw (both, kept) (rw passes step)
twice_one p q r x xs false passes kept passed both step = rw (both, kept) step

filter_twice : {A : Type 0} (p q r : A → Bool) → ((x : A) → p x ≡ (r x && q x)) → (xs : List A) → filter p xs ≡ filter q (filter r xs)
filter_twice p q r each [] = refl
filter_twice p q r each (x ∷ xs) = twice_one p q r x xs (r x) (q x) refl refl (each x) (filter_twice p q r each xs)

-- a verdict takes its draft out
still_open : (same : Bool) (verdict : Verdict) (found : Option Verdict) → not (is_some (if same then Some verdict else found)) ≡ (not (is_some found) && not same)
still_open true verdict None = refl
still_open true verdict (Some v) = refl
still_open false verdict None = refl
still_open false verdict (Some v) = refl

pub open_less : (older : List BankEntry) (imad : Imad) (verdict : Verdict)
    → open_drafts (Answered imad verdict ∷ older) ≡ filter (λ (d : Draft). not (same_imad d.imad imad)) (open_drafts older)
open_less older imad verdict =
    filter_twice (is_open (Answered imad verdict ∷ older)) (λ (d : Draft). not (same_imad d.imad imad)) (is_open older)
    (λ (d : Draft). still_open (same_imad imad d.imad) verdict (verdict_of d.imad older)
    ∙ ap (λ (b : Bool). is_open older d && not b) (either_order imad d.imad))
    (drafts older)

-- the rows of drafts are taken out as the drafts are
pub rows_less : (imad : Imad) (ds : List Draft)
    → filter (λ (r : OpenDraft). not (same_imad r.imad imad)) (open_rows ds) ≡ open_rows (filter (λ (d : Draft). not (same_imad d.imad imad)) ds)
rows_less imad [] = refl
rows_less imad (d ∷ ds) = one (same_imad d.imad imad) (rows_less imad ds)
  where
    one : (same : Bool) → filter (λ (r : OpenDraft). not (same_imad r.imad imad)) (open_rows ds) ≡ open_rows (filter (λ (e : Draft). not (same_imad e.imad imad)) ds)
        → (if not same then record { imad = d.imad; place = d.place } ∷ filter (λ (r : OpenDraft). not (same_imad r.imad imad)) (open_rows ds) else filter (λ (r : OpenDraft). not (same_imad r.imad imad)) (open_rows ds))
        ≡ open_rows (if not same then d ∷ filter (λ (e : Draft). not (same_imad e.imad imad)) ds else filter (λ (e : Draft). not (same_imad e.imad imad)) ds)
    one true step = step
    one false step = ap (λ (rs : List OpenDraft). record { imad = d.imad; place = d.place } ∷ rs) step

-- an IMAD is among the rows where it is among the drafts
pub rows_have : (imad : Imad) (ds : List Draft) → list_any (λ (r : OpenDraft). same_imad r.imad imad) (open_rows ds) ≡ list_any (λ (d : Draft). same_imad d.imad imad) ds
rows_have imad [] = refl
rows_have imad (d ∷ ds) = ap (λ (b : Bool). same_imad d.imad imad || b) (rows_have imad ds)

own_open : (imad : Imad) (es : List BankEntry) (d : Draft) (kept : Bool) → same_imad d.imad imad ≡ true → is_open es d ≡ kept → not (is_answered imad es) ≡ kept
own_open imad es d kept own left = subst (λ (i : Imad). not (is_answered i es) ≡ kept) (imads_equal d.imad imad own) left

never : (b : Bool) → (b && false) ≡ false
never true = refl
never false = refl

-- and among the open drafts where a draft has it and no verdict came for it
open_one : (imad : Imad) (es : List BankEntry) (d : Draft) (ds : List Draft) (same kept : Bool) → same_imad d.imad imad ≡ same → is_open es d ≡ kept
    → list_any (λ (e : Draft). same_imad e.imad imad) (filter (is_open es) ds) ≡ (list_any (λ (e : Draft). same_imad e.imad imad) ds && not (is_answered imad es))
    → list_any (λ (e : Draft). same_imad e.imad imad) (filter (is_open es) (d ∷ ds)) ≡ (list_any (λ (e : Draft). same_imad e.imad imad) (d ∷ ds) && not (is_answered imad es))
open_one imad es d ds true true own left step = rw (left, own, own_open imad es d true own left) refl
open_one imad es d ds true false own left step =
    let none = own_open imad es d false own left in
    rw (left, own) (step ∙ ap (λ (b : Bool). list_any (λ (e : Draft). same_imad e.imad imad) ds && b) none ∙ never _ ∙ sym none)
open_one imad es d ds false true own left step = rw (left, own) step
open_one imad es d ds false false own left step = rw (left, own) step

pub open_have : (imad : Imad) (es : List BankEntry) (ds : List Draft)
    → list_any (λ (d : Draft). same_imad d.imad imad) (filter (is_open es) ds) ≡ (list_any (λ (d : Draft). same_imad d.imad imad) ds && not (is_answered imad es))
open_have imad es [] = refl
open_have imad es (d ∷ ds) = open_one imad es d ds (same_imad d.imad imad) (is_open es d) refl refl (open_have imad es ds)

-- the IMADs of the drafts by their entries
pub drafts_have : (imad : Imad) (es : List BankEntry) → list_any (λ (r : DraftAt). same_imad r.imad imad) (drafts_at es) ≡ is_drafted imad es
drafts_have imad [] = refl
drafts_have imad (Drafted own text ∷ older) =
    list_any-append (λ (r : DraftAt). same_imad r.imad imad) (drafts_at older) (record { imad = own; entry = length older } ∷ [])
    ∙ ap (λ (b : Bool). b || (same_imad own imad || false)) (drafts_have imad older)
    ∙ sym (list_any-append (λ (d : Draft). same_imad d.imad imad) (drafts older) (record { place = length (drafts older); imad = own; text = text } ∷ []))
drafts_have imad (Answered own verdict ∷ older) = drafts_have imad older
drafts_have imad (Received at text next ∷ older) = drafts_have imad older

-- the places of the drafts by their rows
pub rows_places : (ds : List Draft) → map (λ (r : OpenDraft). r.place) (open_rows ds) ≡ map (λ (d : Draft). d.place) ds
rows_places [] = refl
rows_places (d ∷ ds) = ap (λ (l : List ℕ). d.place ∷ l) (rows_places ds)
