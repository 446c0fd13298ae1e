-- Outputs rise in position, and none has a date after the present cycle.
use Rattle.std.proofs.Common.{◌≡◌, ⊎_elim, refl, sym, ◌∙◌, ap, subst, ℕ, ◌+◌, ◌<◌, ◌≤◌, ◌==◌, Bool, true, false, List, [], ◌∷◌, ◌++◌, append-nil, length, if◌then◌else◌, arith}
use Rattle.std.proofs.lemmas.Bool.{eq-eqb, eqb-true}
use Rattle.std.proofs.lemmas.Bool.Decides.{nat_tests}
use Rattle.std.specs.List.{AllByRecursion, Contains}
use Rattle.std.specs.Str.{bytes_eq}
use Rattle.faim_base.specs.declared.judgement.Verdict.TheVariants.{Taken, Refused}
use Rattle.faim_base.specs.Ids.{is_up_to}
use Rattle.host_ledger.specs.declared.config.Config.{Config}
use Rattle.host_ledger.specs.declared.entries.Entry.{Entry}
use Rattle.host_ledger.specs.declared.entries.Entry.TheVariants.{Posted, Roll}
use Rattle.host_ledger.specs.Accounts.{has_endpoint}
use Rattle.host_ledger.specs.Sums.{cycle}
use Rattle.faim_model.specs.Outputs.{Item, count_under, one_if, outputs}
use Rattle.faim_model.specs.Lawful.{Lawful, Rises}
use Rattle.faim_model.proofs.Imads.{bytes_equal}
use Rattle.faim_model.proofs.InOrder.{count_more}
use Rattle.faim_model.proofs.Judgements.{posted_taken}
use Rattle.faim_model.proofs.Members.{first_or_later, none_in}

-- an item isn't after a date, and under that date its number is at most n
pub record IsWithin (date n : ℕ) (i : Item) : Type 0 where
  pub in_time : i.at.date ≤ date
  pub counted : i.at.date ≡ date → i.at.seq ≤ n

abbrev AllWithin : ℕ → ℕ → List Item → Type 0
AllWithin date n items = AllByRecursion (IsWithin date n) items

within_more : (date n m : ℕ) (items : List Item) → n ≤ m → AllWithin date n items → AllWithin date m items
within_more date n m [] le within = tt
within_more date n m (i ∷ items) le within = (
  record { in_time = within.0.in_time; counted = λ same. let few : i.at.seq ≤ n = within.0.counted same in omega arith },
  within_more date n m items le within.1,
)

-- under a later date there is nothing yet
within_later : (date n next : ℕ) (items : List Item) → date < next → AllWithin date n items → AllWithin next 0 items
within_later date n next [] later within = tt
within_later date n next (i ∷ items) later within =
    let before : i.at.date ≤ date = within.0.in_time in (
      record { in_time = omega arith; counted = λ same. absurd (omega arith) },
      within_later date n next items later within.1,
    )

none_later : (date n next : ℕ) (items : List Item) → date < next → AllWithin date n items → count_under next items ≡ 0
none_later date n next [] later within = refl
none_later date n next (i ∷ items) later within =
    let before : i.at.date ≤ date = within.0.in_time in
    grind (arith, nat_tests, none_later date n next items later within.1)

within_append : (date n : ℕ) (items : List Item) (i : Item) → AllWithin date n items → IsWithin date n i → AllWithin date n (items ++ i ∷ [])
within_append date n [] i within own = (own, tt)
within_append date n (j ∷ items) i within own = (within.0, within_append date n items i within.1 own)

-- a position after all that are within is up to none of them
after_within : (date n : ℕ) (i j : Item) → IsWithin date n i → j.at.date ≡ date → j.at.seq ≡ n + 1 → is_up_to j.at i.at ≡ false
after_within date n i j within date_is seq_is =
    let early : i.at.date ≤ date = within.in_time in
    after_by i.at.date i.at.seq j.at.date j.at.seq early date_is (λ same. let few : i.at.seq ≤ n = within.counted same in omega arith)
  where
    after_by : (d s e k : ℕ) → d ≤ date → e ≡ date → (d ≡ date → s < k) → is_up_to (record { date = e; seq = k }) (record { date = d; seq = s }) ≡ false
    after_by d s e k early is below = grind (arith, nat_tests, below)

after_all : (date n : ℕ) (items : List Item) (j : Item) → AllWithin date n items → j.at.date ≡ date → j.at.seq ≡ n + 1
    → AllByRecursion (λ i. is_up_to j.at i.at ≡ false) items
after_all date n [] j within date_is seq_is = tt
after_all date n (i ∷ items) j within date_is seq_is = (after_within date n i j within.0 date_is seq_is, after_all date n items j within.1 date_is seq_is)

one_later : (i j : Item) (later : List Item) → AllByRecursion (λ k. is_up_to k.at i.at ≡ false) later → is_up_to j.at i.at ≡ false
    → AllByRecursion (λ k. is_up_to k.at i.at ≡ false) (later ++ j ∷ [])
one_later i j [] all own = (own, tt)
one_later i j (k ∷ later) all own = (all.0, one_later i j later all.1 own)

rises_append : (items : List Item) (j : Item) → Rises items → AllByRecursion (λ i. is_up_to j.at i.at ≡ false) items → Rises (items ++ j ∷ [])
rises_append [] j rises after = (tt, tt)
rises_append (i ∷ items) j rises after = (one_later i j items rises.0 after.0, rises_append items j rises.1 after.1)

-- the outputs of a list that goes on
pub record GoOn (date : ℕ) (items : List Item) : Type 0 where
  pub rises : Rises items
  pub within : AllWithin date (count_under date items) items

-- an item with the next number of the date, or none
goes_on : (date : ℕ) (items : List Item) (i : Item) → i.at.date ≡ date → i.at.seq ≡ count_under date items + 1 → GoOn date items → GoOn date (items ++ i ∷ [])
goes_on date items i date_is seq_is g =
    let more : count_under date (items ++ i ∷ []) ≡ count_under date items + 1 =
    count_more date items i ∙ ap (λ (n : ℕ). count_under date items + (if n == date then 1 else 0)) date_is ∙ own_counts date (count_under date items) in
    record {
      rises = rises_append items i g.rises (after_all date (count_under date items) items i g.within date_is seq_is);
      within = within_append date (count_under date (items ++ i ∷ [])) items i
          (within_more date (count_under date items) (count_under date (items ++ i ∷ [])) items (omega (arith, more)) g.within)
          (record { in_time = omega arith; counted = λ same. omega (arith, more, seq_is) });
    }
  where
    own_counts : (d n : ℕ) → n + (if d == d then 1 else 0) ≡ n + 1
    own_counts d n = rw (eq-eqb d d refl) refl

perhaps_goes_on : (gets : Bool) (date : ℕ) (items : List Item) (i : Item) → i.at.date ≡ date → (gets ≡ true → i.at.seq ≡ count_under date items + 1)
    → GoOn date items → GoOn date (items ++ one_if gets i)
perhaps_goes_on false date items i date_is next g = subst (GoOn date) (sym (append-nil items)) g
perhaps_goes_on true date items i date_is next g = goes_on date items i date_is (next refl) g

later_goes_on : (date next : ℕ) (items : List Item) → date < next → GoOn date items → GoOn next items
later_goes_on date next items later g = record {
  rises = g.rises;
  within = subst (λ (n : ℕ). AllWithin next n items) (sym (none_later date (count_under date items) next items later g.within))
      (within_later date (count_under date items) next items later g.within);
}

pub outputs_go_on : (c : Config) (es : List Entry) (e : List ℕ) → Lawful c es → GoOn (cycle c es) (outputs c es e)
outputs_go_on c [] e lawful = record { rises = tt; within = tt }
outputs_go_on c (Posted h body resent moment (Refused why) ∷ es) e lawful =
    subst (GoOn (cycle c es)) (sym (append-nil (outputs c es e))) (outputs_go_on c es e lawful.1)
outputs_go_on c (Posted h body resent moment (Taken dest seq) ∷ es) e lawful =
    let taken = posted_taken c es h body resent moment dest seq lawful.0 in
    let item : Item = record { at = record { date = h.imad.date; seq = seq }; place = length es; entry = Posted h body resent moment (Taken dest seq) } in
    perhaps_goes_on (bytes_eq dest e) (cycle c es) (outputs c es e) item (eqb-true h.imad.date (cycle c es) taken.in_cycle)
    (λ gets. subst (λ (x : List ℕ). seq ≡ count_under (cycle c es) (outputs c es x) + 1) (taken.dest_is ∙ bytes_equal dest e gets) (sym taken.seq_is))
    (outputs_go_on c es e lawful.1)
outputs_go_on c (Roll moment date ∷ es) e lawful =
    let item : Item = record {
      at = record { date = cycle c es; seq = count_under (cycle c es) (outputs c es e) + 1 };
      place = length es;
      entry = Roll moment date;
    } in
    later_goes_on (cycle c es) date (outputs c es e ++ one_if (has_endpoint c.accounts e) item) lawful.0.later
    (perhaps_goes_on (has_endpoint c.accounts e) (cycle c es) (outputs c es e) item refl (λ gets. refl) (outputs_go_on c es e lawful.1))

date_within : (date n : ℕ) (items : List Item) (i : Item) → AllWithin date n items → Contains items i → i.at.date ≤ date
date_within date n [] i within there = absurd (none_in i there)
date_within date n (j ∷ items) i within there =
    ⊎_elim (λ (here : i ≡ j). subst (λ (k : Item). k.at.date ≤ date) (sym here) within.0.in_time)
    (λ (later : Contains items i). date_within date n items i within.1 later) (first_or_later j i items there)

-- no output has a later date than the present cycle
pub outputs_in_time : (c : Config) (es : List Entry) (e : List ℕ) (i : Item) → Lawful c es → Contains (outputs c es e) i → i.at.date ≤ cycle c es
outputs_in_time c es e i lawful there =
    let g = outputs_go_on c es e lawful in date_within (cycle c es) (count_under (cycle c es) (outputs c es e)) (outputs c es e) i g.within there
