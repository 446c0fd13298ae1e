-- What a refusal's letter and digits tell.
use Rattle.std.proofs.Common.{◌≡◌, ◌≢◌, refl, sym, ap, subst, ◌∙◌, ℕ, suc, ◌<◌, ◌^◌, ◌&&◌, Bool, true, false, cond, not, eqb, List, [], ◌∷◌, length, drop, get_or, Some, None, option_map, arith}
use Rattle.std.specs.Prelude.{if◌then◌else◌}
use Rattle.std.specs.Str.{bytes_eq}
use Rattle.std.specs.List.{find, list_all}
use Rattle.std.proofs.lemmas.Bool.{and_parts, and_from}
use Rattle.std.proofs.lemmas.Grind.{common_steps}
use Rattle.std.proofs.lemmas.Option.{cond_some}
use Rattle.faim_base.specs.declared.judgement.Reject.{Reject}
use Rattle.faim_base.specs.declared.judgement.Verdict.TheVariants.{Refused}
use Rattle.faim_base.specs.Digits.{is_number, number_of, padded, read_number}
use Rattle.faim_base.specs.Refusals.{is_recorded}
use Rattle.faim_base.specs.Text.{is_digit}
use Rattle.faim_base.proofs.DigitLemmas.{length-padded, list_all-padded, number_of-padded, number_of_lt, padded-number_of}
use Rattle.faim_edits.specs.Printing.{refusal_code}
use Rattle.faim_edits.specs.Texts.{Listed, listed}
use Rattle.faim_model.specs.Readings.{refused_as}
use Rattle.faim_model.proofs.Codes.{refusal_read}
use Rattle.faim_model.proofs.Imads.{bytes_equal}

-- no refusal that an entry may keep has the code
module _ (code : List ℕ) (never : (r : Reject) → is_recorded r ≡ true → refusal_code r ≢ code) where
  abbrev passes : Listed → Bool
  passes l = is_recorded l.refusal && bytes_eq (refusal_code l.refusal) code

  none_found : (rows : List Listed) → option_map (λ (l : Listed). Refused l.refusal) (find (λ l. passes l) rows) ≡ None
  none_found [] = refl
  none_found (l ∷ rows) = here (passes l) refl (none_found rows)
    where
      here : (b : Bool) → passes l ≡ b → option_map (λ (k : Listed). Refused k.refusal) (find (λ k. passes k) rows) ≡ None
          → option_map (λ (k : Listed). Refused k.refusal) (cond b (Some l) (find (λ k. passes k) rows)) ≡ None
      here true test later =
          let both = and_parts (is_recorded l.refusal) (bytes_eq (refusal_code l.refusal) code) test in
          absurd (never l.refusal both.0 (bytes_equal (refusal_code l.refusal) code both.1))
      here false test later = later

  pub none_refused : refused_as code ≡ None
  none_refused = none_found listed

-- a refusal of three digits is told by its code
one_refusal_code : (a b : Reject) → a.code < 1000 → b.code < 1000 → refusal_code a ≡ refusal_code b → a ≡ b
one_refusal_code a b small low same =
    let letter : a.category ≡ b.category = cc in
    let digits : padded 3 a.code ≡ padded 3 b.code = cc in
    let number : a.code ≡ b.code = sym (number_of-padded 3 a.code small) ∙ ap number_of digits ∙ number_of-padded 3 b.code low in
    λ i. record { category = letter i; code = number i }

recorded_below : (r : Reject) → is_recorded r ≡ true → r.code < 1000
recorded_below r is = grind (arith, common_steps)

-- one that no entry keeps tells nothing
unrecorded : (r : Reject) → r.code < 1000 → is_recorded r ≡ false → refused_as (refusal_code r) ≡ None
unrecorded r small not_kept =
    none_refused (refusal_code r) (λ k kept same.
    let low : k.code < 1000 = recorded_below k kept in
    let is : k ≡ r = one_refusal_code k r low small same in
    let both : true ≡ false = sym kept ∙ ap is_recorded is ∙ not_kept in
    absurd cc)

-- the code tells the refusal, where an entry may keep it
pub refused_by : (code : List ℕ) (r : Reject) → refusal_code r ≡ code → r.code < 1000 → refused_as code ≡ (if is_recorded r then Some (Refused r) else None)
refused_by code r same small = subst (λ (bytes : List ℕ). refused_as bytes ≡ (if is_recorded r then Some (Refused r) else None)) same (go (is_recorded r) refl)
  where
    go : (b : Bool) → is_recorded r ≡ b → refused_as (refusal_code r) ≡ (if b then Some (Refused r) else None)
    go true kept = refusal_read r kept
    go false other = unrecorded r small other

-- three digits and their number
digits_named : (digits : List ℕ) (number : ℕ) → length digits ≡ 3 → read_number digits ≡ Some number → (padded 3 number ≡ digits) × (number < 1000)
digits_named digits number size found =
    let read = cond_some (is_number digits) (number_of digits) number found in
    let all : list_all is_digit digits ≡ true = (and_parts (not (eqb (length digits) 0)) (list_all is_digit digits) read.0).1 in
    let low : number_of digits < 10 ^ length digits = number_of_lt digits all in
    let bound : number_of digits < 10 ^ 3 = rw size at low in
    (ap (padded 3) (sym read.1) ∙ padded-number_of digits 3 size all, omega (arith, bound, read.1))

-- a letter and three digits are a refusal's code
pub code_named : (code : List ℕ) (number : ℕ) → length code ≡ 4 → read_number (drop 1 code) ≡ Some number
    → (refusal_code (record { category = get_or code 0 0; code = number }) ≡ code) × (number < 1000)
code_named [] number size found = absurd (omega (arith, size))
code_named (letter ∷ digits) number size found =
    let named = digits_named digits number (omega (arith, size)) found in
    (ap (λ (ds : List ℕ). letter ∷ ds) named.0, named.1)

-- a refusal's code has four bytes, of which the last three are digits
pub code_long : (r : Reject) (code : List ℕ) → refusal_code r ≡ code → length code ≡ 4
code_long r code same = sym (ap length same) ∙ ap (λ (n : ℕ). suc n) (length-padded 3 r.code)

pub code_digits : (r : Reject) (code : List ℕ) → refusal_code r ≡ code → read_number (drop 1 code) ≢ None
code_digits r code same none =
    let digits : drop 1 code ≡ padded 3 r.code = ap (drop 1) (sym same) in
    let some : not (eqb (length (padded 3 r.code)) 0) ≡ true = ap (λ (n : ℕ). not (eqb n 0)) (length-padded 3 r.code) in
    let number : is_number (padded 3 r.code) ≡ true = and_from (not (eqb (length (padded 3 r.code)) 0)) (list_all is_digit (padded 3 r.code)) some (list_all-padded 3 r.code) in
    let read : read_number (padded 3 r.code) ≡ Some (number_of (padded 3 r.code)) = ap (λ (b : Bool). if b then Some (number_of (padded 3 r.code)) else None) number in
    let both : None ≡ Some (number_of (padded 3 r.code)) = sym none ∙ ap read_number digits ∙ read in
    absurd cc
