-- How many drafts and outputs a cycle date has.
use Rattle.std.proofs.Common.{◌≡◌, ◌≢◌, refl, sym, ◌∙◌, ap, ℕ, ◌+◌, ◌<◌, ◌≤◌, ◌==◌, Bool, true, false, List, [], ◌∷◌, ◌++◌, length, if◌then◌else◌, Some, None, Result, Ok, Err, arith, length-append}
use Rattle.std.specs.Prelude.{◌↔◌, IsErr}
use Rattle.std.proofs.lemmas.Bool.{eq-eqb, eqb-true}
use Rattle.std.proofs.lemmas.Bool.Decides.{nat_tests}
use Rattle.std.proofs.lemmas.List.Elements.{filter-append}
use Rattle.faim_base.specs.Numbers.{greatest_seq}
use Rattle.faim_base.specs.declared.ids.Imad.{Imad}
use Rattle.faim_base.specs.declared.ids.OutPos.{OutPos}
use Rattle.bank_books.specs.declared.entries.BankEntry.{BankEntry}
use Rattle.bank_books.specs.declared.entries.BankEntry.TheVariants.{Drafted, Answered, Received}
use Rattle.bank_books.specs.declared.entries.BankOpening.{BankOpening}
use Rattle.bank_books.specs.declared.outcomes.SeqFull.{SeqFull}
use Rattle.bank_books.specs.Drafts.{Draft, drafts, drafts_of, is_of}
use Rattle.bank_books.specs.Inbox.{bank_cycle}
use Rattle.bank_books.specs.Numbering.{drafts_in_cycle, next_imad, seq_full}
use Rattle.bank_books.specs.Lawful.{LawfulBank}

-- the next IMAD, and that there is one
pub record IsNext (o : BankOpening) (es : List BankEntry) (imad : Imad) : Type 0 where
  pub date : imad.date ≡ bank_cycle o es
  pub source : imad.source ≡ o.endpoint
  pub number : imad.seq ≡ drafts_in_cycle o es + 1
  pub not_full : drafts_in_cycle o es ≢ greatest_seq

abbrev pub taken : ℕ → List ℕ → ℕ → Result Imad SeqFull
taken date source number = Ok (record { date = date; source = source; seq = number })

abbrev pub none_left : Result Imad SeqFull
none_left = Err seq_full

next_by : (full : Bool) (o : BankOpening) (es : List BankEntry) (imad : Imad) → (drafts_in_cycle o es == greatest_seq) ≡ full
    → (if full then none_left else Ok (record { date = bank_cycle o es; source = o.endpoint; seq = drafts_in_cycle o es + 1 })) ≡ Ok imad
    → IsNext o es imad
next_by true o es imad test is = absurd cc
next_by false o es imad test is =
    let same : record { date = bank_cycle o es; source = o.endpoint; seq = drafts_in_cycle o es + 1 } ≡ imad = cc in
    record {
      date = ap (λ (i : Imad). i.date) (sym same);
      source = ap (λ (i : Imad). i.source) (sym same);
      number = ap (λ (i : Imad). i.seq) (sym same);
      not_full = λ full. let both : true ≡ false = sym (eq-eqb (drafts_in_cycle o es) greatest_seq full) ∙ test in absurd cc;
    }

pub is_next : (o : BankOpening) (es : List BankEntry) (imad : Imad) → next_imad o es ≡ Ok imad → IsNext o es imad
is_next o es imad is = next_by (drafts_in_cycle o es == greatest_seq) o es imad refl is

full_by : (full : Bool) (o : BankOpening) (es : List BankEntry) → (drafts_in_cycle o es == greatest_seq) ≡ full → full ≡ true → none_left ≡ next_imad o es
full_by true o es test is = rw test refl
full_by false o es test is = absurd cc

-- there is none where the cycle has 999,999 drafts
pub none_next : (o : BankOpening) (es : List BankEntry) → drafts_in_cycle o es ≡ greatest_seq → none_left ≡ next_imad o es
none_next o es full = full_by (drafts_in_cycle o es == greatest_seq) o es refl (eq-eqb (drafts_in_cycle o es) greatest_seq full)

more_by : (full : Bool) (o : BankOpening) (es : List BankEntry) → (drafts_in_cycle o es == greatest_seq) ≡ full → drafts_in_cycle o es ≢ greatest_seq
    → Ok (record { date = bank_cycle o es; source = o.endpoint; seq = drafts_in_cycle o es + 1 }) ≡ next_imad o es
more_by true o es test room = absurd (room (eqb-true (drafts_in_cycle o es) greatest_seq test))
more_by false o es test room = rw test refl

pub one_next : (o : BankOpening) (es : List BankEntry) → drafts_in_cycle o es ≢ greatest_seq
    → Ok (record { date = bank_cycle o es; source = o.endpoint; seq = drafts_in_cycle o es + 1 }) ≡ next_imad o es
one_next o es room = more_by (drafts_in_cycle o es == greatest_seq) o es refl room

full_says : (full : Bool) (count date : ℕ) (source : List ℕ) → (count == greatest_seq) ≡ full
    → IsErr (if full then none_left else taken date source (count + 1)) ↔ (count ≡ greatest_seq)
full_says true count date source test = (λ err. eqb-true count greatest_seq test, λ full. refl)
full_says false count date source test =
    (λ err. absurd cc, λ full. let both : true ≡ false = sym (eq-eqb count greatest_seq full) ∙ test in absurd cc)

-- and only there
pub full_exactly : (o : BankOpening) (es : List BankEntry) → IsErr (next_imad o es) ↔ (drafts_in_cycle o es ≡ greatest_seq)
full_exactly o es = full_says (drafts_in_cycle o es == greatest_seq) (drafts_in_cycle o es) (bank_cycle o es) o.endpoint refl

-- one draft more
pub one_of : (date : ℕ) (older : List BankEntry) (imad : Imad) (text : List ℕ)
    → drafts_of date (Drafted imad text ∷ older)
    ≡ drafts_of date older ++ (if imad.date == date then record { place = length (drafts older); imad = imad; text = text } ∷ [] else [])
one_of date older imad text = filter-append (is_of date) (drafts older) (record { place = length (drafts older); imad = imad; text = text } ∷ [])

abbrev pub one_for : Bool → ℕ
one_for b = if b then 1 else 0

more_of : (own : Bool) (ds : List Draft) (d : Draft) → length (ds ++ (if own then d ∷ [] else [])) ≡ length ds + one_for own
more_of true ds d = length-append ds (d ∷ [])
more_of false ds d = length-append ds []

pub count_of : (date : ℕ) (older : List BankEntry) (imad : Imad) (text : List ℕ)
    → length (drafts_of date (Drafted imad text ∷ older)) ≡ length (drafts_of date older) + one_for (imad.date == date)
count_of date older imad text =
    ap length (one_of date older imad text) ∙ more_of (imad.date == date) (drafts_of date older) (record { place = length (drafts older); imad = imad; text = text })

counts : (date : ℕ) (own : ℕ) → own ≡ date → one_for (own == date) ≡ 1
counts date own same = ap one_for (eq-eqb own date same)

pub own_counts : (older : List BankEntry) (imad : Imad) (text : List ℕ) (date : ℕ) → imad.date ≡ date
    → length (drafts_of date (Drafted imad text ∷ older)) ≡ length (drafts_of date older) + 1
own_counts older imad text date same = count_of date older imad text ∙ ap (λ (n : ℕ). length (drafts_of date older) + n) (counts date imad.date same)

pub apart : (own date : ℕ) → own < date → (own == date) ≡ false
apart own date lt = grind (arith, nat_tests)

-- no draft is of a later date than the present cycle
pub none_later : (o : BankOpening) (es : List BankEntry) (date : ℕ) → LawfulBank o es → bank_cycle o es < date → drafts_of date es ≡ []
none_later o [] date lawful later = refl
none_later o (Drafted imad text ∷ older) date lawful later =
    let next = is_next o older imad lawful.0 in
    let before : imad.date < date = omega (arith, next.date, later) in
    one_of date older imad text
    ∙ ap (λ (b : Bool). drafts_of date older ++ (if b then record { place = length (drafts older); imad = imad; text = text } ∷ [] else [])) (apart imad.date date before)
    ∙ ap (λ (ds : List Draft). ds ++ []) (none_later o older date lawful.1 later)
none_later o (Answered imad verdict ∷ older) date lawful later = none_later o older date lawful.1 later
none_later o (Received at text None ∷ older) date lawful later = none_later o older date lawful.1 later
none_later o (Received at text (Some next) ∷ older) date lawful later =
    let same : at.date ≡ bank_cycle o older = ap (λ (p : OutPos). p.date) lawful.0.position in
    let rising : at.date < next = lawful.0.date.0 in
    none_later o older date lawful.1 (omega (arith, same, rising, later))

-- a cycle has at most 999,999 drafts
pub drafts_fit : (o : BankOpening) (es : List BankEntry) → LawfulBank o es → drafts_in_cycle o es ≤ greatest_seq
drafts_fit o [] lawful = omega arith
drafts_fit o (Drafted imad text ∷ older) lawful =
    let next = is_next o older imad lawful.0 in
    let fits : drafts_in_cycle o older ≤ greatest_seq = drafts_fit o older lawful.1 in
    let more : drafts_in_cycle o (Drafted imad text ∷ older) ≡ drafts_in_cycle o older + 1 = own_counts older imad text (bank_cycle o older) next.date in
    let room : drafts_in_cycle o older ≢ greatest_seq = next.not_full in
    omega (arith, fits, more, room)
drafts_fit o (Answered imad verdict ∷ older) lawful = drafts_fit o older lawful.1
drafts_fit o (Received at text None ∷ older) lawful = drafts_fit o older lawful.1
drafts_fit o (Received at text (Some next) ∷ older) lawful =
    let same : at.date ≡ bank_cycle o older = ap (λ (p : OutPos). p.date) lawful.0.position in
    let rising : at.date < next = lawful.0.date.0 in
    let none : length (drafts_of next older) ≡ 0 = ap length (none_later o older next lawful.1 (omega (arith, same, rising))) in
    omega (arith, none)
