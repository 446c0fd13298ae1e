-- What counts of an endpoint's outputs say.
use Rattle.std.proofs.Common.{◌≡◌, ℕ, ◌+◌, ◌≤◌, ◌==◌, Bool, true, false, not, ◌&&◌, ◌||◌, List, [], ◌∷◌, ◌++◌, length, filter, Option, Some, None, refl, sym, ◌∙◌, ap, subst, arith}
use Rattle.std.specs.Prelude.{if◌then◌else◌, bytes_eq, nat_lt, nat_le}
use Rattle.std.specs.List.{list_all}
use Rattle.std.specs.Option.{option_map_or, option_map}
use Rattle.std.specs.Map.{lookup}
use Rattle.std.proofs.lemmas.Bool.Decides.{nat_tests}
use Rattle.std.proofs.lemmas.List.{map-append, length-map}
use Rattle.indexmap.specs.IndexMap.{insert_entry}
use Rattle.indexmap.proofs.MapLemmas.{insert_entry-absent, absent_from_lookup}
use Rattle.faim_base.specs.Numbers.{greatest_seq}
use Rattle.host_index.specs.declared.keys.Slot.{Slot}
use Rattle.host_index.specs.declared.keys.Sent.{Sent}
use Rattle.host_index.specs.declared.limits.Limit.{Limit}
use Rattle.host_index.specs.declared.limits.Limit.TheVariants.{Position, Date, EndOf, Never}
use Rattle.host_index.specs.Index.{Output, outputs_to, is_above, is_before, is_under}
use Rattle.host_index.specs.Limits.{is_within, count_before}
use Rattle.host_index.specs.Tables.{output_of, outputs_in, IsNext, AreNext}
use Rattle.host_index.proofs.Found.{same_slot, output_to, output_found, next_is_free, one_next, passed, left_out}
use Rattle.host_index.proofs.InOrder.{IsInOrder, IsClosed, both, all_imply, in_order, reached}

-- the order of positions is that of pairs
between : (a b c d e f : ℕ) → not (nat_lt c a || ((c == a) && nat_le d b)) ≡ true → not (nat_lt e c || ((e == c) && nat_le f d)) ≡ true → not (nat_lt e a || ((e == a) && nat_le f b)) ≡ true
between a b c d e f h k = grind (arith, nat_tests)

date_not_later : (a b c d : ℕ) → not (nat_lt c a || ((c == a) && nat_le d b)) ≡ true → a ≤ c
date_not_later a b c d h = grind (arith, nat_tests)

before_day : (a c date : ℕ) → a ≤ c → nat_lt c date ≡ true → nat_lt a date ≡ true
before_day a c date le h = grind (arith, nat_tests)

up_to_day : (a c date : ℕ) → a ≤ c → nat_le c date ≡ true → nat_le a date ≡ true
up_to_day a c date le h = grind (arith, nat_tests)

pub within_closed : (l : Limit) → IsClosed (λ (o : Output). is_within l o.at)
within_closed (Position p) x y before h = between x.at.date x.at.seq y.at.date y.at.seq p.date p.seq before h
within_closed (Date date) x y before h = before_day x.at.date y.at.date date (date_not_later x.at.date x.at.seq y.at.date y.at.seq before) h
within_closed (EndOf date) x y before h = up_to_day x.at.date y.at.date date (date_not_later x.at.date x.at.seq y.at.date y.at.seq before) h
within_closed Never x y before h = refl

read_through : (l : Limit) (d : List ℕ) (o : Option Sent) → option_map_or (λ (t : Sent). is_within l t.at) o false ≡ option_map_or (λ (o : Output). is_within l o.at) (option_map (output_to d) o) false
read_through l d None = refl
read_through l d (Some t) = refl

-- what the table finds under a number stands before a limit exactly where the number is below the count
pub reaches_count : (es : List (Slot × Sent)) (s : Slot) (l : Limit) → AreNext [] es → option_map_or (λ (t : Sent). is_within l t.at) (lookup (same_slot s) es) false ≡ nat_lt s.number (count_before l s.dest (outputs_in es))
reaches_count es s l next =
    read_through l s.dest (lookup (same_slot s) es)
    ∙ ap (λ (o : Option Output). option_map_or (λ (o : Output). is_within l o.at) o false) (output_found [] es s s.number next (omega arith))
    ∙ reached (λ (o : Output). is_within l o.at) (within_closed l) (outputs_to s.dest (outputs_in es)) s.number (in_order s.dest es next)

few_step : {A : Type 0} (p : A → Bool) (x : A) (xs : List A) → length (filter p xs) ≤ length xs → (b : Bool) → p x ≡ b → length (filter p (x ∷ xs)) ≤ length xs + 1
few_step p x xs le true t = let e = ap length (passed p x xs t) in omega (arith, e)
few_step p x xs le false f = let e = ap length (left_out p x xs f) in omega (arith, e)

few : {A : Type 0} (p : A → Bool) (xs : List A) → length (filter p xs) ≤ length xs
few p [] = omega arith
few p (x ∷ xs) = let h = few_step p x xs (few p xs) (p x) refl in omega (arith, h)

pub count_fits : (es : List (Slot × Sent)) (l : Limit) (d : List ℕ) → count_before l d (outputs_in es) ≤ length es
count_fits es l d =
    let a = few (λ (o : Output). is_within l o.at) (outputs_to d (outputs_in es)) in
    let b = few (λ (o : Output). bytes_eq d o.dest) (outputs_in es) in
    let e = length-map es output_of in
    omega (arith, a, b, e)

pub all_of_them : (xs : List Output) → filter (λ (o : Output). is_within Never o.at) xs ≡ xs
all_of_them [] = refl
all_of_them (x ∷ xs) = ap (λ (l : List Output). x ∷ l) (all_of_them xs)

pub record Put (es new : List (Slot × Sent)) (o : Output) : Type 0 where
  pub numbered : AreNext [] new
  pub outputs : outputs_in new ≡ outputs_in es ++ o ∷ []

pub put_next : (es new : List (Slot × Sent)) (s : Slot) (t : Sent) → AreNext [] es → s.number ≡ count_before Never s.dest (outputs_in es) → is_above s.dest t.at (outputs_in es) ≡ true
    → t.at.seq ≤ greatest_seq → new ≡ insert_entry same_slot es s t → Put es new (output_to s.dest t)
put_next es new s t next number above range is =
    let count : s.number ≡ length (outputs_to s.dest (outputs_in es)) = number ∙ ap length (all_of_them (outputs_to s.dest (outputs_in es))) in
    let free : lookup (same_slot s) es ≡ None = next_is_free es s next count in
    let added : new ≡ es ++ (s, t) ∷ [] = is ∙ insert_entry-absent same_slot s t es (absent_from_lookup (same_slot s) es free) in
    let here : IsNext (outputs_in es) (s, t) = record { number = count; above = above; range = range } in
    record {
      numbered = subst (λ (l : List (Slot × Sent)). AreNext [] l) (sym added) (one_next [] es (s, t) next here);
      outputs = ap outputs_in added ∙ mapped es (s, t);
    }
  where
    mapped : (es : List (Slot × Sent)) (e : Slot × Sent) → outputs_in (es ++ e ∷ []) ≡ outputs_in es ++ output_of e ∷ []
    mapped es e = map-append output_of es (e ∷ [])

pub put_to : (es new : List (Slot × Sent)) (s : Slot) (t : Sent) (d : List ℕ) (n : ℕ) → s.dest ≡ d → s.number ≡ n → AreNext [] es → n ≡ count_before Never d (outputs_in es) → is_above d t.at (outputs_in es) ≡ true
    → t.at.seq ≤ greatest_seq → new ≡ insert_entry same_slot es s t → Put es new (output_to d t)
put_to es new s t d n same number next count above range is =
    let here : Put es new (output_to s.dest t) =
    put_next es new s t next (number ∙ count ∙ ap (λ (e : List ℕ). count_before Never e (outputs_in es)) (sym same)) (ap (λ (e : List ℕ). is_above e t.at (outputs_in es)) same ∙ above) range is in
    subst (λ (e : List ℕ). Put es new (output_to e t)) same here

day_step : (d a : ℕ) (m n k : ℕ) → m ≡ n + k → (b c e : Bool) → nat_le a d ≡ b → nat_lt a d ≡ c → (a == d) ≡ e → (if b then m + 1 else m) ≡ (if c then n + 1 else n) + (if e then k + 1 else k)
day_step d a m n k is b c e p q r = grind (arith, nat_tests)

longer : {A : Type 0} (p : A → Bool) (x : A) (xs : List A) (b : Bool) → p x ≡ b → length (filter p (x ∷ xs)) ≡ (if p x then length (filter p xs) + 1 else length (filter p xs))
longer p x xs true t = ap length (passed p x xs t) ∙ omega arith ∙ sym (ap (λ (b : Bool). if b then length (filter p xs) + 1 else length (filter p xs)) t)
longer p x xs false f = ap length (left_out p x xs f) ∙ sym (ap (λ (b : Bool). if b then length (filter p xs) + 1 else length (filter p xs)) f)

up_to_and_under : (date : ℕ) (xs : List Output) → length (filter (λ (o : Output). is_within (EndOf date) o.at) xs) ≡ length (filter (λ (o : Output). is_within (Date date) o.at) xs) + length (filter (is_under date) xs)
up_to_and_under date [] = omega arith
up_to_and_under date (x ∷ xs) =
    let a = longer (λ (o : Output). is_within (EndOf date) o.at) x xs (nat_le x.at.date date) refl in
    let b = longer (λ (o : Output). is_within (Date date) o.at) x xs (nat_lt x.at.date date) refl in
    let c = longer (is_under date) x xs (x.at.date == date) refl in
    let d = day_step date x.at.date (length (filter (λ (o : Output). is_within (EndOf date) o.at) xs)) (length (filter (λ (o : Output). is_within (Date date) o.at) xs)) (length (filter (is_under date) xs)) (up_to_and_under date xs) (nat_le x.at.date date) (nat_lt x.at.date date) (x.at.date == date) refl refl refl in
    omega (arith, a, b, c, d)

-- an output under a date has at least this number
abbrev pub numbered_from : ℕ → ℕ → Output → Bool
numbered_from date n o = not (is_under date o) || nat_le n o.at.seq

rises : (date : ℕ) (x y : Output) → is_under date x ≡ true → is_before y.at x ≡ true → numbered_from date (x.at.seq + 1) y ≡ true
rises date x y under before = lifted x.at.date x.at.seq y.at.date y.at.seq under before
  where
    lifted : (a b c d : ℕ) → (a == date) ≡ true → not (nat_lt c a || ((c == a) && nat_le d b)) ≡ true → not (c == date) || nat_le (b + 1) d ≡ true
    lifted a b c d under before = grind (arith, nat_tests)

at_least : (date n : ℕ) (x : Output) → is_under date x ≡ true → numbered_from date n x ≡ true → n ≤ x.at.seq
at_least date n x under from_n = low x.at.date x.at.seq under from_n
  where
    low : (a b : ℕ) → (a == date) ≡ true → not (a == date) || nat_le n b ≡ true → n ≤ b
    low a b under from_n = grind (arith, nat_tests)

under_step : (date n : ℕ) (x : Output) (xs : List Output) → x.at.seq ≤ greatest_seq → numbered_from date n x ≡ true → n + length (filter (is_under date) xs) ≤ greatest_seq + 1
    → (is_under date x ≡ true → x.at.seq + 1 + length (filter (is_under date) xs) ≤ greatest_seq + 1)
    → (b : Bool) → is_under date x ≡ b → n + length (filter (is_under date) (x ∷ xs)) ≤ greatest_seq + 1
under_step date n x xs range here without with_it true t =
    let e = ap length (passed (is_under date) x xs t) in
    let low : n ≤ x.at.seq = at_least date n x t here in
    let rest = with_it t in
    omega (arith, e, low, rest)
under_step date n x xs range here without with_it false f =
    let e = ap length (left_out (is_under date) x xs f) in omega (arith, e, without)

few_under : (date n : ℕ) (xs : List Output) → n ≤ greatest_seq + 1 → IsInOrder xs → list_all (numbered_from date n) xs ≡ true → n + length (filter (is_under date) xs) ≤ greatest_seq + 1
few_under date n [] le order all = omega arith
few_under date n (x ∷ xs) le order all =
    let h : (numbered_from date n x ≡ true) × (list_all (numbered_from date n) xs ≡ true) = both (numbered_from date n x) (list_all (numbered_from date n) xs) all in
    under_step date n x xs order.0 h.0 (few_under date n xs le order.2 h.1)
    (λ u. few_under date (x.at.seq + 1) xs (omega (arith, order.0)) order.2 (all_imply (λ (y : Output). is_before y.at x) (numbered_from date (x.at.seq + 1)) xs (λ y before. rises date x y u before) order.1)) (is_under date x) refl

all_from_zero : (date : ℕ) (xs : List Output) → list_all (numbered_from date 0) xs ≡ true
all_from_zero date [] = refl
all_from_zero date (x ∷ xs) = ap (λ (b : Bool). b && list_all (numbered_from date 0) xs) (low x.at.date x.at.seq) ∙ all_from_zero date xs
  where
    low : (a b : ℕ) → not (a == date) || nat_le 0 b ≡ true
    low a b = grind (arith, nat_tests)

-- outputs under a date are those up to its end without those before it, and their numbers keep them few
pub record Under (date : ℕ) (d : List ℕ) (os : List Output) : Type 0 where
  pub parts : count_before (EndOf date) d os ≡ count_before (Date date) d os + length (filter (is_under date) (outputs_to d os))
  pub few : length (filter (is_under date) (outputs_to d os)) ≤ greatest_seq + 1

pub under : (date : ℕ) (d : List ℕ) (es : List (Slot × Sent)) → AreNext [] es → Under date d (outputs_in es)
under date d es next =
    let n = few_under date 0 (outputs_to d (outputs_in es)) (omega arith) (in_order d es next) (all_from_zero date (outputs_to d (outputs_in es))) in
    record { parts = up_to_and_under date (outputs_to d (outputs_in es)); few = omega (arith, n) }
