-- The outputs of an endpoint, as a bank keeps them, stand in a row.
use Rattle.std.proofs.Common.{◌≡◌, ⊎_elim, refl, sym, ◌∙◌, ap, subst, ℕ, ◌+◌, ◌<◌, ◌≤◌, ◌==◌, Bool, true, false, List, [], ◌∷◌, ◌++◌, map, append-nil, length, if◌then◌else◌, Some, None, arith}
use Rattle.std.specs.Prelude.{bytes_eq}
use Rattle.std.specs.List.{Contains}
use Rattle.std.proofs.lemmas.Bool.{eq-eqb}
use Rattle.std.proofs.lemmas.Bool.Decides.{nat_tests}
use Rattle.std.proofs.lemmas.List.{map-append}
use Rattle.std.proofs.lemmas.List.Elements.{Contains-append_cases}
use Rattle.faim_base.specs.declared.ids.OutPos.{OutPos}
use Rattle.faim_base.specs.declared.judgement.Verdict.TheVariants.{Taken, Refused}
use Rattle.host_ledger.specs.declared.config.Config.{Config}
use Rattle.host_ledger.specs.declared.entries.Entry.{Entry}
use Rattle.host_ledger.specs.declared.entries.Entry.TheVariants.{Posted, Roll}
use Rattle.host_ledger.specs.Accounts.{has_endpoint}
use Rattle.host_ledger.specs.Sums.{cycle}
use Rattle.bank_books.specs.Inbox.{InboxItem}
use Rattle.bank_books.specs.Lawful.{StandInARow, right_after}
use Rattle.faim_model.specs.Outputs.{Item, count_under, one_if, outputs}
use Rattle.faim_model.specs.Lawful.{Lawful}
use Rattle.faim_model.proofs.Accepted.{accepted}
use Rattle.faim_model.proofs.Imads.{bytes_equal}
use Rattle.faim_model.proofs.InOrder.{count_more}
use Rattle.faim_model.proofs.Members.{first_in, first_or_later, later_in, none_in}
use Rattle.faim_model.proofs.Rising.{outputs_in_time}
use Rattle.bank_accord.specs.Accord.{output_text}
use Rattle.bank_accord.proofs.HostRanges.{next_of}
use Rattle.bank_accord.proofs.Rows.{after_all, after_more, first_of, row_more}

-- an item as a bank keeps it
abbrev pub as_kept : Config → List ℕ → Item → InboxItem
as_kept c e i = record { at = i.at; text = output_text c e i; next = next_of i.entry }

-- where all items are of earlier dates, none stands under a date
none_under : (date : ℕ) (items : List Item) → ((i : Item) → Contains items i → i.at.date < date) → count_under date items ≡ 0
none_under date [] earlier = refl
none_under date (i ∷ items) earlier =
    let before : i.at.date < date = earlier i (first_in i items) in
    grind (arith, nat_tests, none_under date items (λ j there. earlier j (later_in i j items there)))

module _ (c : Config) (e : List ℕ) where
  -- these items stand in a row from the opening on, and the next number of this date is right after them
  pub record RowTo (date : ℕ) (items : List Item) : Type 0 where
    pub row : StandInARow (first_of c.date) (map (as_kept c e) items)
    pub next : after_all (first_of c.date) (map (as_kept c e) items) ≡ record { date = date; seq = count_under date items + 1 }

  -- one more that stands there
  more : (date : ℕ) (items : List Item) (i : Item) (later : ℕ) → i.at ≡ record { date = date; seq = count_under date items + 1 }
      → right_after i.at (next_of i.entry) ≡ record { date = later; seq = count_under later (items ++ i ∷ []) + 1 }
      → RowTo date items → RowTo later (items ++ i ∷ [])
  more date items i later at after r =
      let both = map-append (as_kept c e) items (i ∷ []) in
      let first : OutPos = first_of c.date in
      record {
        row = subst (StandInARow first) (sym both) (row_more first (map (as_kept c e) items) (as_kept c e i) (at ∙ sym r.next) r.row);
        next = ap (after_all first) both ∙ after_more first (map (as_kept c e) items) (as_kept c e i) ∙ after;
      }

  counts : (date n : ℕ) → n + (if date == date then 1 else 0) ≡ n + 1
  counts date n = rw (eq-eqb date date refl) refl

  one_more : (date : ℕ) (items : List Item) (i : Item) → i.at ≡ record { date = date; seq = count_under date items + 1 }
      → count_under date (items ++ i ∷ []) ≡ count_under date items + 1
  one_more date items i at =
      count_more date items i
      ∙ ap (λ (p : OutPos). count_under date items + (if p.date == date then 1 else 0)) at ∙ counts date (count_under date items)

  -- a message more
  message_more : (date : ℕ) (items : List Item) (i : Item) → i.at ≡ record { date = date; seq = count_under date items + 1 } → next_of i.entry ≡ None
      → RowTo date items → RowTo date (items ++ i ∷ [])
  message_more date items i at none r =
      more date items i date at
      (ap (right_after i.at) none ∙ ap (λ (p : OutPos). record { date = p.date; seq = p.seq + 1 }) at
      ∙ ap (λ (n : ℕ). record { date = date; seq = n + 1 }) (sym (one_more date items i at))) r

  perhaps_more : (gets : Bool) (date : ℕ) (items : List Item) (i : Item) → (gets ≡ true → i.at ≡ record { date = date; seq = count_under date items + 1 })
      → next_of i.entry ≡ None → RowTo date items → RowTo date (items ++ one_if gets i)
  perhaps_more false date items i at none r = subst (RowTo date) (sym (append-nil items)) r
  perhaps_more true date items i at none r = message_more date items i (at refl) none r

  -- an end of a cycle more
  end_more : (date : ℕ) (items : List Item) (i : Item) (later : ℕ) → i.at ≡ record { date = date; seq = count_under date items + 1 }
      → next_of i.entry ≡ Some later → count_under later (items ++ i ∷ []) ≡ 0 → RowTo date items → RowTo later (items ++ i ∷ [])
  end_more date items i later at goes none r =
      more date items i later at (ap (right_after i.at) goes ∙ ap (λ (n : ℕ). record { date = later; seq = n + 1 }) (sym none)) r

  -- the item that a Roll gives
  abbrev end_item : List Entry → ℕ → ℕ → Item
  end_item older moment date = record {
    at = record { date = cycle c older; seq = count_under (cycle c older) (outputs c older e) + 1 };
    place = length older;
    entry = Roll moment date;
  }

  -- after a Roll none stands under the new date
  none_yet : (older : List Entry) (moment date : ℕ) → Lawful c (Roll moment date ∷ older)
      → count_under date (outputs c older e ++ end_item older moment date ∷ []) ≡ 0
  none_yet older moment date lawful =
      let later : cycle c older < date = lawful.0.later in
      let own = end_item older moment date in
      none_under date (outputs c older e ++ own ∷ []) (λ i there. ⊎_elim
      (λ (before : Contains (outputs c older e) i). let early : i.at.date ≤ cycle c older = outputs_in_time c older e i lawful.1 before in omega arith)
      (λ (end : Contains (own ∷ []) i). ⊎_elim
      (λ (is : i ≡ own). let at : i.at.date ≡ cycle c older = ap (λ (j : Item). j.at.date) is in omega arith)
      (λ none. absurd (none_in i none)) (first_or_later own i [] end))
      (Contains-append_cases (outputs c older e) (own ∷ []) i there))

  pub in_a_row : (es : List Entry) → Lawful c es → has_endpoint c.accounts e ≡ true → RowTo (cycle c es) (outputs c es e)
  in_a_row [] lawful served = record { row = tt; next = refl }
  in_a_row (Posted h body resent moment (Refused why) ∷ older) lawful served =
      subst (RowTo (cycle c older)) (sym (append-nil (outputs c older e))) (in_a_row older lawful.1 served)
  in_a_row (Posted h body resent moment (Taken dest seq) ∷ older) lawful served =
      let a = accepted c older h body resent moment dest seq lawful in
      let item : Item = record { at = record { date = h.imad.date; seq = seq }; place = length older; entry = Posted h body resent moment (Taken dest seq) } in
      let number : bytes_eq dest e ≡ true → seq ≡ count_under (cycle c older) (outputs c older e) + 1 =
      λ gets. subst (λ (d : List ℕ). seq ≡ count_under (cycle c older) (outputs c older d) + 1) (bytes_equal dest e gets) a.number in
      perhaps_more (bytes_eq dest e) (cycle c older) (outputs c older e) item (λ gets. λ k. record { date = a.current k; seq = number gets k }) refl
      (in_a_row older lawful.1 served)
  in_a_row (Roll moment date ∷ older) lawful served =
      let own = end_item older moment date in
      subst (λ (b : Bool). RowTo date (outputs c older e ++ one_if b own)) (sym served)
      (end_more (cycle c older) (outputs c older e) own date refl refl (none_yet older moment date lawful) (in_a_row older lawful.1 served))
