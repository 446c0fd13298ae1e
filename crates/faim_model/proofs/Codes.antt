-- A refusal is known by its letter and its digits.
use Rattle.std.proofs.Common.{◌≡◌, ⊎_elim, refl, sym, ap, subst, ◌∙◌, ◌<◌, ◌==◌, ◌&&◌, ◌||◌, Bool, true, false, cond, List, [], ◌∷◌, Some, None, is_some, option_map, arith}
use Rattle.std.specs.Str.{bytes_eq}
use Rattle.std.specs.List.{find}
use Rattle.std.proofs.lemmas.Bool.{and_parts, and_from, eqb-true, or_cases}
use Rattle.std.proofs.lemmas.Grind.{common_steps}
use Rattle.faim_base.specs.declared.judgement.Reject.{Reject}
use Rattle.faim_base.specs.declared.judgement.Verdict.TheVariants.{Refused}
use Rattle.faim_base.specs.Digits.{number_of, padded}
use Rattle.faim_base.specs.Refusals.{e001, e002, h102, is_recorded, x201}
use Rattle.faim_base.proofs.DigitLemmas.{number_of-padded}
use Rattle.faim_edits.specs.Printing.{refusal_code}
use Rattle.faim_edits.specs.Texts.{Listed, is_same, is_turned_away, listed}
use Rattle.faim_edits.proofs.Listing.{listed_where}
use Rattle.faim_model.specs.Readings.{refused_as}
use Rattle.faim_model.proofs.Imads.{bytes_equal, bytes_pass}

pub same_refusal : (a b : Reject) → is_same a b ≡ true → a ≡ b
same_refusal a b same =
    let both = and_parts (a.category == b.category) (a.code == b.code) same in
    let letter : a.category ≡ b.category = eqb-true a.category b.category both.0 in
    let number : a.code ≡ b.code = eqb-true a.code b.code both.1 in
    λ i. record { category = letter i; code = number i }

-- the four refusals of submissions that are turned away
pub away_cases : (P : Reject → Type 0) (why : Reject) → P e001 → P e002 → P h102 → P x201 → is_turned_away why ≡ true → P why
away_cases P why first second third fourth away =
    ⊎_elim (λ same. at e001 first same) (λ more.
    ⊎_elim (λ same. at e002 second same) (λ more.
    ⊎_elim (λ same. at h102 third same) (λ more.
    ⊎_elim (λ same. at x201 fourth same) (λ (never : false ≡ true). absurd cc)
    (or_cases (is_same why x201) false more))
    (or_cases (is_same why h102) (is_same why x201 || false) more))
    (or_cases (is_same why e002) (is_same why h102 || (is_same why x201 || false)) more))
    (or_cases (is_same why e001) (is_same why e002 || (is_same why h102 || (is_same why x201 || false))) away)
  where
    at : (r : Reject) → P r → is_same why r ≡ true → P why
    at r holds same = subst P (sym (same_refusal why r same)) holds

recorded_below : (r : Reject) → is_recorded r ≡ true → r.code < 1000
recorded_below r is = grind (arith, common_steps)

-- letter and digits tell a refusal
one_code : (a b : Reject) → is_recorded a ≡ true → is_recorded b ≡ true → refusal_code a ≡ refusal_code b → a ≡ b
one_code a b own other same =
    let letter : a.category ≡ b.category = cc in
    let digits : padded 3 a.code ≡ padded 3 b.code = cc in
    let small : a.code < 1000 = recorded_below a own in
    let low : b.code < 1000 = recorded_below b other in
    let number : a.code ≡ b.code = sym (number_of-padded 3 a.code small) ∙ ap number_of digits ∙ number_of-padded 3 b.code low in
    λ i. record { category = letter i; code = number i }

module _ (why : Reject) (kept : is_recorded why ≡ true) where
  -- the row of a code
  abbrev passes : Listed → Bool
  passes l = is_recorded l.refusal && bytes_eq (refusal_code l.refusal) (refusal_code why)

  own_passes : (l : Listed) → is_same why l.refusal ≡ true → passes l ≡ true
  own_passes l same =
      let is : why ≡ l.refusal = same_refusal why l.refusal same in
      subst (λ (r : Reject). (is_recorded r && bytes_eq (refusal_code r) (refusal_code why)) ≡ true) is
      (and_from (is_recorded why) (bytes_eq (refusal_code why) (refusal_code why)) kept (bytes_pass (refusal_code why) (refusal_code why) refl))

  passing_is : (l : Listed) → passes l ≡ true → l.refusal ≡ why
  passing_is l test =
      let both = and_parts (is_recorded l.refusal) (bytes_eq (refusal_code l.refusal) (refusal_code why)) test in
      one_code l.refusal why both.0 kept (bytes_equal (refusal_code l.refusal) (refusal_code why) both.1)

  found_row : (rows : List Listed) → is_some (option_map (λ (l : Listed). l.text) (find (λ l. is_same why l.refusal) rows)) ≡ true
      → option_map (λ (l : Listed). Refused l.refusal) (find (λ l. passes l) rows) ≡ Some (Refused why)
  found_row [] there = absurd (let wrong : false ≡ true = there in cc)
  found_row (l ∷ rows) there = here (passes l) refl (found_row rows) (is_same why l.refusal) refl there
    where
      here : (b : Bool) → passes l ≡ b
          → (is_some (option_map (λ (k : Listed). k.text) (find (λ k. is_same why k.refusal) rows)) ≡ true
          → option_map (λ (k : Listed). Refused k.refusal) (find (λ k. passes k) rows) ≡ Some (Refused why))
          → (s : Bool) → is_same why l.refusal ≡ s
          → is_some (option_map (λ (k : Listed). k.text) (cond s (Some l) (find (λ k. is_same why k.refusal) rows))) ≡ true
          → option_map (λ (k : Listed). Refused k.refusal) (cond b (Some l) (find (λ k. passes k) rows)) ≡ Some (Refused why)
      here true test later s same there = ap (λ (r : Reject). Some (Refused r)) (passing_is l test)
      here false test later true same there = absurd (let both : true ≡ false = sym (own_passes l same) ∙ test in cc)
      here false test later false same there = later there

  pub refusal_read : refused_as (refusal_code why) ≡ Some (Refused why)
  refusal_read = found_row listed (listed_where why ∙ ap (λ (b : Bool). b || is_turned_away why) kept)

pub away_unread : (why : Reject) → is_turned_away why ≡ true → refused_as (refusal_code why) ≡ None
unfolding padded
away_unread why away = away_cases (λ r. refused_as (refusal_code r) ≡ None) why refl refl refl refl away
