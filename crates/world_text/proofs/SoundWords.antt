-- What is read of a word is a value of its kind; and a reading in steps, taken apart.
use Rattle.std.proofs.Common.{◌≡◌, ◌⊎◌, ⊎_elim, inl, inr, ℕ, zero, suc, ◌+◌, ◌*◌, ◌/◌, ◌%◌, ◌<◌, ◌≤◌, Bool, true, false, List, [], ◌∷◌, length, Option, Some, None, refl, subst, arith}
use Rattle.std.specs.Prelude.{◌==◌, ◌&&◌, nat_le, Result, Ok, Err, ok_or, option_map, option_and_then, bytes_eq, codes, if◌then◌else◌, ℤ, pos, neg_ℤ}
use Rattle.std.proofs.lemmas.Bool.{and_parts}
use Rattle.std.proofs.lemmas.Bool.Decides.{nat_tests}
use Rattle.std.proofs.lemmas.Option.{cond_some}
use Rattle.faim_base.specs.Calendar.{read_date}
use Rattle.faim_base.specs.Digits.{read_number}
use Rattle.faim_base.specs.Ids.{◌>>=◌}
use Rattle.faim_base.specs.Numbers.{IsDay, greatest_amount}
use Rattle.faim_base.specs.Ranges.{IsAba, IsEndpoint}
use Rattle.faim_base.specs.Text.{aba_holds, is_aba, is_endpoint, read_aba, read_endpoint}
use Rattle.faim_base.proofs.DateLemmas.{date_text-read_date}
use Rattle.faim_base.proofs.ReadLemmas.{chosen_some}
use Rattle.host_ledger.specs.Soundness.{IsBalance, IsCutoff, IsEnv}
use Rattle.world_text.specs.declared.script.ScriptFault.{ScriptFault}
use Rattle.world_text.specs.declared.script.Why.{Why}
use Rattle.world_text.specs.Fields.{env_word, date_word, time_of, time_word, cutoff_word, endpoint_word, aba_word, below_zero, cents_word, magnitude_word}
use Rattle.world_text.specs.Grammar.{at_line}
use Rattle.world_text.proofs.Magnitudes.{magnitude_fits}

-- a step of a reading that went well, and what came after it
pub value_step : {A B : Type 0} (o : Option A) (why : Why) (f : A → Result B Why) (y : B) → (ok_or o why >>= f) ≡ Ok y → (x : A) × (o ≡ Some x) × (f x ≡ Ok y)
value_step None why f y is = absurd cc
value_step (Some x) why f y is = (x, refl, is)

pub word_step : {A B : Type 0} (r : Result A Why) (f : A → Result B Why) (y : B) → (r >>= f) ≡ Ok y → (x : A) × (r ≡ Ok x) × (f x ≡ Ok y)
word_step (Ok x) f y is = (x, refl, is)
word_step (Err why) f y is = absurd cc

pub line_step : {A B : Type 0} (n : ℕ) (r : Result A Why) (f : A → Result B ScriptFault) (y : B) → (at_line n r >>= f) ≡ Ok y → (x : A) × (r ≡ Ok x) × (f x ≡ Ok y)
line_step n (Ok x) f y is = (x, refl, is)
line_step n (Err why) f y is = absurd cc

pub text_step : {A B : Type 0} (r : Result A ScriptFault) (f : A → Result B ScriptFault) (y : B) → (r >>= f) ≡ Ok y → (x : A) × (r ≡ Ok x) × (f x ≡ Ok y)
text_step (Ok x) f y is = (x, refl, is)
text_step (Err why) f y is = absurd cc

-- a value that is there only where a test holds
pub tested : {A E : Type 0} (test : Bool) (r : Result A E) (e : E) (x : A) → (if test then r else Err e) ≡ Ok x → r ≡ Ok x
tested true r e x is = is
tested false r e x is = absurd cc

pub choice : {A : Type 0} (test : Bool) (x y r : A) → (if test then x else y) ≡ r → ((test ≡ true) × (x ≡ r)) ⊎ ((test ≡ false) × (y ≡ r))
choice true x y r is = inl (refl, is)
choice false x y r is = inr (refl, is)

-- the values of words
one_of_two : (p q : Bool) (e : ℕ) → (if p then Some 84 else (if q then Some 80 else None)) ≡ Some e → IsEnv e
one_of_two true q e is = inl cc
one_of_two false true e is = inr cc
one_of_two false false e is = absurd cc

pub env_sound : (w : List ℕ) (e : ℕ) → env_word w ≡ Some e → IsEnv e
env_sound w e is = one_of_two (bytes_eq w (codes "T")) (bytes_eq w (codes "P")) e is

size_is : (a b : ℕ) → (a == b) ≡ true → a ≡ b
size_is a b same = grind (arith, nat_tests)

pub date_sound : (w : List ℕ) (d : ℕ) → date_word w ≡ Some d → IsDay d
date_sound w d is =
    let found = chosen_some (length w == 8) (read_date w) d is in
    (date_text-read_date w d (size_is (length w) 8 found.0) found.1).1

at_most : (a b : ℕ) → nat_le a b ≡ true → a ≤ b
at_most a b le = grind (arith, nat_tests)

time_fits : (n m : ℕ) → time_of n ≡ Some m → m < 1440
time_fits n m is =
    let found = cond_some (nat_le n 2_359 && nat_le (n % 100) 59) (60 * (n / 100) + n % 100) m is in
    let tests = and_parts (nat_le n 2_359) (nat_le (n % 100) 59) found.0 in
    omega (arith, found.1, at_most n 2_359 tests.0, at_most (n % 100) 59 tests.1)

some_time : (o : Option ℕ) (m : ℕ) → option_and_then time_of o ≡ Some m → m < 1440
some_time None m is = absurd cc
some_time (Some n) m is = time_fits n m is

time_sound : (w : List ℕ) (m : ℕ) → time_word w ≡ Some m → m < 1440
time_sound w m is =
    let found = chosen_some (length w == 4) (option_and_then time_of (read_number w)) m is in
    some_time (read_number w) m found.1

pub cutoff_sound : (w : List ℕ) (m : ℕ) → cutoff_word w ≡ Some m → IsCutoff m
cutoff_sound w m is = ⊎_elim
    (λ end. let there : Some 1440 ≡ Some m = end.1 in let same : 1440 ≡ m = cc in omega (arith, same))
    (λ time. let small = time_sound w m time.1 in omega (arith, small))
    (choice (bytes_eq w (codes "2400")) (Some 1440) (time_word w) (Some m) is)

pub endpoint_sound : (w e : List ℕ) → endpoint_word w ≡ Some e → IsEndpoint e
endpoint_sound w e is =
    let found = chosen_some (length w == 8) (read_endpoint w) e is in
    let read = cond_some (is_endpoint w) w e found.1 in
    subst (λ (l : List ℕ). IsEndpoint l) read.1 (size_is (length w) 8 found.0, read.0)

pub aba_sound : (w a : List ℕ) → aba_word w ≡ Some a → IsAba a × (aba_holds a ≡ true)
aba_sound w a is =
    let found = chosen_some ((length w == 9) && aba_holds w) (read_aba w) a is in
    let tests = and_parts (length w == 9) (aba_holds w) found.0 in
    let read = cond_some (is_aba w) w a found.1 in
    subst (λ (l : List ℕ). IsAba l × (aba_holds l ≡ true)) read.1 ((size_is (length w) 9 tests.0, read.0), tests.1)

above : (found : Option ℕ) (z : ℤ) → ((n : ℕ) → found ≡ Some n → n ≤ greatest_amount) → option_map (λ n. pos n) found ≡ Some z → IsBalance z
above None z fits is = absurd cc
above (Some n) z fits is = let same : pos n ≡ z = cc in subst IsBalance same (fits n refl)

below_fits : (n : ℕ) → n ≤ greatest_amount → IsBalance (neg_ℤ (pos n))
below_fits zero le = le
below_fits (suc n) le = le

below : (found : Option ℕ) (z : ℤ) → ((n : ℕ) → found ≡ Some n → n ≤ greatest_amount) → below_zero found ≡ Some z → IsBalance z
below None z fits is = absurd cc
below (Some n) z fits is = ⊎_elim
    (λ none. let nothing : None ≡ Some z = none.1 in absurd cc)
    (λ some. let there : Some (neg_ℤ (pos n)) ≡ Some z = some.1 in let same : neg_ℤ (pos n) ≡ z = cc in subst IsBalance same (below_fits n (fits n refl)))
    (choice (n == 0) None (Some (neg_ℤ (pos n))) (Some z) is)

pub cents_sound : (w : List ℕ) (z : ℤ) → cents_word w ≡ Some z → IsBalance z
cents_sound [] z is = absurd cc
cents_sound (b ∷ rest) z is = ⊎_elim
    (λ minus. below (magnitude_word rest) z (magnitude_fits rest) minus.1)
    (λ plus. above (magnitude_word (b ∷ rest)) z (magnitude_fits (b ∷ rest)) plus.1)
    (choice (b == 45) (below_zero (magnitude_word rest)) (option_map (λ n. pos n) (magnitude_word (b ∷ rest))) (Some z) is)
