-- What stands at each moment of a bank's step lies in a step of the world.
use Rattle.std.proofs.Common.{◌≡◌, ◌⊎◌, inl, inr, refl, sym, subst, ap, ◌∙◌, ℕ, ◌+◌, ◌-◌, ◌≤◌, leb, Bool, true, false, List, [], ◌++◌, append-nil, append_assoc, length, take, Option, Some, None}
use Rattle.std.specs.Prelude.{bytes_eq, if◌then◌else◌, is_some}
use Rattle.std.proofs.lemmas.Bool.{leb-false, leb-true}
use Rattle.link_frames.specs.Frames.{Content as Frame}
use Rattle.bank_books.specs.declared.entries.BankEntry.{BankEntry}
use Rattle.faim_model.proofs.Imads.{bytes_equal}
use Rattle.bank_turns.specs.BankSteps.{BankStep, adds_to}
use Rattle.world_events.specs.declared.acts.Event.{Event}
use Rattle.world_model.specs.Worlds.{World}
use Rattle.world_model.specs.Effects.{AtBank, effect}
use Rattle.world_model.specs.Ways.{BankInOrder, Stopped, Through, Way, after, bank_lands, is_kept}
use Rattle.world_model.specs.WorldSteps.{MayGo, call_of, calls_before, told}
use Rattle.world_model.specs.Runs.{IsGrownFrom}
use Rattle.world_model.specs.Moments.{IsByCall, IsUpTo, LiesIn}
use Rattle.world_model.proofs.Growing.{bank_grows, kept_grow}
use Rattle.world_model.proofs.HostMoments.{KeepsToo, step_by, stop_behind, take_more}

-- an entry, where it is kept
abbrev kept_of : Bool → Option BankEntry → Option BankEntry
kept_of kept adds = if kept then adds else None

entries_more : (adds : Option BankEntry) (kept more : Bool) (es : List BankEntry) → KeepsToo (is_some adds) kept more
    → (newer : List BankEntry) × (adds_to (kept_of more adds) es ≡ newer ++ adds_to (kept_of kept adds) es)
entries_more adds false more es too = kept_grow (kept_of more adds) es
entries_more None true true es too = ([], refl)
entries_more None true false es too = ([], refl)
entries_more (Some x) true true es too = ([], refl)
entries_more (Some x) true false es too = absurd (let wrong : false ≡ true = too refl refl in cc)

-- a list is as it was, or it has the entry
list_is : (adds : Option BankEntry) (kept more : Bool) (es : List BankEntry) → KeepsToo (is_some adds) kept more
    → (adds_to (kept_of kept adds) es ≡ es) ⊎ (adds_to (kept_of kept adds) es ≡ adds_to (kept_of more adds) es)
list_is adds false more es too = inl refl
list_is None true more es too = inl refl
list_is (Some x) true true es too = inr refl
list_is (Some x) true false es too = absurd (let wrong : false ≡ true = too refl refl in cc)

module _ (w : World) (e : List ℕ) (step : BankStep) where
  books_more : (kept more : Bool) (n m : ℕ) → KeepsToo (is_some step.adds) kept more → (other : List ℕ)
      → (newer : List BankEntry) × ((bank_lands w e step more m).books other ≡ newer ++ (bank_lands w e step kept n).books other)
  books_more kept more n m too other = by_test (bytes_eq other e)
    where
      by_test : (b : Bool) → (newer : List BankEntry)
          × ((if b then adds_to (kept_of more step.adds) (w.books e) else w.books other)
          ≡ newer ++ (if b then adds_to (kept_of kept step.adds) (w.books e) else w.books other))
      by_test true = entries_more step.adds kept more (w.books e) too
      by_test false = ([], refl)

  lands_more : (kept more : Bool) (n m : ℕ) → KeepsToo (is_some step.adds) kept more → n ≤ m
      → IsGrownFrom (bank_lands w e step kept n) (bank_lands w e step more m)
  lands_more kept more n m too few =
      let sent = take_more n m step.sends few in
      record {
        config = refl;
        banks = refl;
        entries = ([], refl);
        books = books_more kept more n m too;
        to_host = (sent.0, ap (λ (l : List Frame). w.to_host ++ l) sent.1 ∙ sym (append_assoc w.to_host (take n step.sends) sent.0));
        from_host = ([], sym (append-nil w.from_host));
      }

  -- each bank's list is that before the step or that with its entry
  books_are : (kept more : Bool) (n m : ℕ) → KeepsToo (is_some step.adds) kept more → (other : List ℕ)
      → ((bank_lands w e step kept n).books other ≡ w.books other) ⊎ ((bank_lands w e step kept n).books other ≡ (bank_lands w e step more m).books other)
  books_are kept more n m too other = by_test (bytes_eq other e) refl
    where
      at_own : bytes_eq other e ≡ true
          → (adds_to (kept_of kept step.adds) (w.books e) ≡ w.books e) ⊎ (adds_to (kept_of kept step.adds) (w.books e) ≡ adds_to (kept_of more step.adds) (w.books e))
          → (adds_to (kept_of kept step.adds) (w.books e) ≡ w.books other) ⊎ (adds_to (kept_of kept step.adds) (w.books e) ≡ adds_to (kept_of more step.adds) (w.books e))
      at_own same (inl before) = inl (before ∙ ap w.books (sym (bytes_equal other e same)))
      at_own same (inr later) = inr later

      by_test : (b : Bool) → bytes_eq other e ≡ b
          → ((if b then adds_to (kept_of kept step.adds) (w.books e) else w.books other) ≡ w.books other)
          ⊎ ((if b then adds_to (kept_of kept step.adds) (w.books e) else w.books other) ≡ (if b then adds_to (kept_of more step.adds) (w.books e) else w.books other))
      by_test true same = at_own same (list_is step.adds kept more (w.books e) too)
      by_test false apart = inl refl

  module _ (event : Event) (about : effect w event.act ≡ AtBank e step) where
    -- a landing from which the world after goes on; it is one too
    lies_before : (stop : Option ℕ) (kept : Bool) (n : ℕ) (way : Way) (more : Bool) (m : ℕ) → call_of event.stop ≡ stop → MayGo w stop (AtBank e step) way
        → after w (AtBank e step) way ≡ bank_lands w e step more m → KeepsToo (is_some step.adds) kept more → n ≤ m → LiesIn w event (bank_lands w e step kept n)
    lies_before stop kept n way more m is may gives too few = record {
      x = told w (AtBank e step) way;
      next = bank_lands w e step more m;
      step = let goes = step_by w event (AtBank e step) way about (subst (λ (x : Option ℕ). MayGo w x (AtBank e step) way) (sym is) may) in
          record { way = goes.way; may = goes.may; tells = goes.tells; gives = sym gives ∙ goes.gives };
      begins = bank_grows w e step kept n;
      ends = lands_more kept more n m too few;
      host = inl (refl, refl);
      banks = books_are kept more n m too;
    }

    lies_through : (stop : Option ℕ) (kept : Bool) (n : ℕ) → call_of event.stop ≡ stop → MayGo w stop (AtBank e step) Through → BankInOrder step kept n
        → LiesIn w event (bank_lands w e step kept n)
    lies_through stop kept n is may in_order = lies_before stop kept n Through true (length step.sends) is may refl (λ some kept. refl) in_order.few

    lies_stopped : (call : ℕ) (kept : Bool) (n : ℕ) → call_of event.stop ≡ Some call → call ≤ calls_before (is_some step.adds) + length step.sends
        → IsByCall call (is_some step.adds) kept n → LiesIn w event (bank_lands w e step kept n)
    lies_stopped call kept n is reached by =
        let behind = stop_behind call (is_some step.adds) (length step.sends) kept reached by.secured in
        let sent : ℕ = call - calls_before (is_some step.adds) in
        lies_before (Some call) kept n (Stopped behind.fate sent) (is_kept behind.fate) sent is behind.stop refl behind.covers by.made

    bank_lies_by : (stop : Option ℕ) (kept : Bool) (n : ℕ) → call_of event.stop ≡ stop → BankInOrder step kept n → IsUpTo stop (is_some step.adds) kept n
        → LiesIn w event (bank_lands w e step kept n)
    bank_lies_by None kept n is in_order by = lies_through None kept n is refl in_order
    bank_lies_by (Some call) kept n is in_order by = by_reach (leb call (calls_before (is_some step.adds) + length step.sends)) refl
      where
        by_reach : (b : Bool) → leb call (calls_before (is_some step.adds) + length step.sends) ≡ b → LiesIn w event (bank_lands w e step kept n)
        by_reach true reach = lies_stopped call kept n is (leb-true call (calls_before (is_some step.adds) + length step.sends) reach) by
        by_reach false reach = lies_through (Some call) kept n is (leb-false call (calls_before (is_some step.adds) + length step.sends) reach) in_order

    pub bank_lies : (kept : Bool) (n : ℕ) → BankInOrder step kept n → IsUpTo (call_of event.stop) (is_some step.adds) kept n
        → LiesIn w event (bank_lands w e step kept n)
    bank_lies kept n in_order by = bank_lies_by (call_of event.stop) kept n refl in_order by
