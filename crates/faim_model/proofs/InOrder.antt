-- The numbers of outputs under a date.
use Rattle.std.proofs.Common.{◌≡◌, refl, sym, ◌∙◌, subst, ℕ, suc, ◌+◌, ◌==◌, Bool, true, false, List, [], ◌∷◌, ◌++◌, length, if◌then◌else◌, arith, add-one}
use Rattle.std.proofs.lemmas.Bool.{eqb-true}
use Rattle.std.proofs.lemmas.Grind.{common_steps}
use Rattle.std.proofs.lemmas.List.{append-nil}
use Rattle.std.specs.Str.{bytes_eq}
use Rattle.faim_base.specs.declared.judgement.Verdict.TheVariants.{Taken, Refused}
use Rattle.host_ledger.specs.declared.config.Config.{Config}
use Rattle.host_ledger.specs.declared.entries.Entry.{Entry}
use Rattle.host_ledger.specs.declared.entries.Entry.TheVariants.{Posted, Roll}
use Rattle.host_ledger.specs.Accounts.{has_endpoint}
use Rattle.host_ledger.specs.Sums.{cycle}
use Rattle.faim_model.specs.Outputs.{Item, count_under, one_if, outputs}
use Rattle.faim_model.specs.Lawful.{Lawful, numbers_under, one_to}
use Rattle.faim_model.proofs.Imads.{bytes_equal}
use Rattle.faim_model.proofs.Judgements.{posted_taken}

-- the numbers, and how many there are, with one item more
numbers_more : (date : ℕ) (items : List Item) (i : Item)
    → numbers_under date (items ++ i ∷ []) ≡ numbers_under date items ++ (if i.at.date == date then i.at.seq ∷ [] else [])
numbers_more date [] i = grind arith
numbers_more date (x ∷ items) i = grind (arith, numbers_more date items i)

pub count_more : (date : ℕ) (items : List Item) (i : Item)
    → count_under date (items ++ i ∷ []) ≡ count_under date items + (if i.at.date == date then 1 else 0)
count_more date [] i = grind arith
count_more date (x ∷ items) i = grind (arith, count_more date items i)

-- the numbers under a date are 1, 2, 3 and so on
abbrev InOrder : ℕ → List Item → Type 0
InOrder date items = numbers_under date items ≡ one_to (count_under date items)

-- an item with the next number of its date keeps the order
next_in_order : (date : ℕ) (items : List Item) (i : Item) (same : Bool) → (i.at.date == date) ≡ same → InOrder date items
    → i.at.seq ≡ count_under i.at.date items + 1 → InOrder date (items ++ i ∷ [])
next_in_order date items i false test order next = rw (numbers_more date items i, count_more date items i, test) (grind (arith, common_steps))
next_in_order date items i true test order next =
    let same_date : i.at.date ≡ date = eqb-true i.at.date date test in
    let number : i.at.seq ≡ suc (count_under date items) = rw (← same_date) (omega arith) in
    rw (numbers_more date items i, count_more date items i, test, order, number, add-one) refl

-- an item more or none
perhaps_next : (gets : Bool) (date : ℕ) (items : List Item) (i : Item) → (gets ≡ true → i.at.seq ≡ count_under i.at.date items + 1)
    → InOrder date items → InOrder date (items ++ one_if gets i)
perhaps_next false date items i next order = rw (append-nil items) order
perhaps_next true date items i next order = next_in_order date items i (i.at.date == date) refl order (next refl)

-- under each date the numbers of an endpoint are 1, 2, 3 and so on
pub in_order : (c : Config) (es : List Entry) → Lawful c es → (e : List ℕ) (date : ℕ)
    → numbers_under date (outputs c es e) ≡ one_to (count_under date (outputs c es e))
in_order c [] lawful e date = refl
in_order c (Roll moment next ∷ es) lawful e date =
    let end : Item = record {
      at = record { date = cycle c es; seq = count_under (cycle c es) (outputs c es e) + 1 };
      place = length es;
      entry = Roll moment next;
    } in
    perhaps_next (has_endpoint c.accounts e) date (outputs c es e) end (λ _. refl) (in_order c es lawful.1 e date)
in_order c (Posted h body resent moment (Refused why) ∷ es) lawful e date = rw (append-nil (outputs c es e)) (in_order c es lawful.1 e date)
in_order c (Posted h body resent moment (Taken dest seq) ∷ es) lawful e date =
    let post : Entry = Posted h body resent moment (Taken dest seq) in
    let taken = posted_taken c es h body resent moment dest seq lawful.0 in
    let same_date : h.imad.date ≡ cycle c es = eqb-true h.imad.date (cycle c es) taken.in_cycle in
    let next : dest ≡ e → seq ≡ count_under h.imad.date (outputs c es e) + 1 =
    λ at. rw same_date (subst (λ (x : List ℕ). seq ≡ count_under (cycle c es) (outputs c es x) + 1) (taken.dest_is ∙ at) (sym taken.seq_is)) in
    let item : Item = record { at = record { date = h.imad.date; seq = seq }; place = length es; entry = post } in
    perhaps_next (bytes_eq dest e) date (outputs c es e) item (λ test. next (bytes_equal dest e test)) (in_order c es lawful.1 e date)
