use Rattle.std.proofs.Common.{◌≡◌, ◌≤◌, ◌++◌, ◌⊎◌, ◌↔◌, ℕ, ◌-◌, [], true, List, length, take, Result, Ok, Err, IfOk, arith, refl, sym, ap, subst, ◌∙◌}
use Rattle.std.specs.Vec.{with_items}
use Rattle.std.proofs.lemmas.List.{with_items_is}
use Rattle.link_frames.specs.declared.fault.FrameFault.{FrameFault}
use Rattle.link_frames.specs.Splits.{fault_at, is_whole}
use Rattle.link_frames.proofs.Fronts.{fault_stays}
use Rattle.link_frames.proofs.splitter.Splitter.feed.Goals as goal
use Rattle.link_frames.proofs.splitter.Splitter.feed.Goals.{in-Some-fault, in-None}

if_err : (P : ℕ → Type 0) (r : Result ℕ FrameFault) (e : FrameFault) → r ≡ Err e → IfOk r P
if_err P r e is = subst (λ (q : Result ℕ FrameFault). IfOk q P) (sym is) tt

if_ok : (P : ℕ → Type 0) (r : Result ℕ FrameFault) (n : ℕ) → r ≡ Ok n → P n → IfOk r P
if_ok P r n is p = subst (λ (q : Result ℕ FrameFault). IfOk q P) (sym is) p

pub returns-in-Some-clause-fault : goal.returns-in-Some-clause-fault
returns-in-Some-clause-fault c = fault_stays c.args.self.now c.args.piece.now c.in-Some.fault (ap fault_at (sym c.self.view_is) ∙ sym c.self.invariant.3 ∙ c.in-Some.is)

pub returns-clause-taken : goal.returns-clause-taken
returns-clause-taken c =
    let P : ℕ → Type 0 = λ n. (n ≤ length c.args.piece.now) × (take c.fill-count.result.0 (with_items c.self.inside.room c.fill-count.new.room).items ≡ c.args.self.now ++ take n c.args.piece.now) in
    let n = c.fill-count.result.0 - c.self.inside.count in
    elim c.match-fault.branch [
      | in-Some-fault w ↦ if_err P c.match-fault.result w.in-Some-fault.fault w.result-is
      | in-None w ↦ if_ok P c.match-fault.result n w.result-is (
        omega (arith, c.fill-count.ensures.within),
        ap (take c.fill-count.result.0) (with_items_is c.self.inside.room c.fill-count.new.room (omega (arith, c.fill-count.auto.room, c.deref_mut.ensures.len)))
            ∙ c.fill-count.ensures.is n (omega (arith, c.fill-count.ensures.grew)) ∙ ap (λ (l : List ℕ). l ++ take n c.args.piece.now) (ap (take c.self.inside.count) c.deref_mut.ensures.value ∙ c.self.view_is),
      )
    ]

none_at : (old held piece : List ℕ) (count after n : ℕ) → old ≡ held → n ≡ after - count → count ≤ after → (after ≡ count) ↔ ((is_whole old ≡ true) ⊎ (piece ≡ [])) → (n ≡ 0) ↔ ((is_whole held ≡ true) ⊎ (piece ≡ []))
none_at old held piece count after n same is grew none =
    subst (λ (l : List ℕ). (n ≡ 0) ↔ ((is_whole l ≡ true) ⊎ (piece ≡ []))) same (
      λ e. none.0 (omega (arith, e, is, grew)),
      λ either. omega (arith, is, none.1 either),
    )

pub returns-clause-none : goal.returns-clause-none
returns-clause-none c =
    let P : ℕ → Type 0 = λ n. (n ≡ 0) ↔ ((is_whole c.args.self.now ≡ true) ⊎ (c.args.piece.now ≡ [])) in
    let n = c.fill-count.result.0 - c.self.inside.count in
    elim c.match-fault.branch [
      | in-Some-fault w ↦ if_err P c.match-fault.result w.in-Some-fault.fault w.result-is
      | in-None w ↦ if_ok P c.match-fault.result n w.result-is
          (none_at (take c.self.inside.count c.deref_mut.result.now) c.args.self.now c.args.piece.now c.self.inside.count c.fill-count.result.0 n
          (ap (take c.self.inside.count) c.deref_mut.ensures.value ∙ c.self.view_is) refl c.fill-count.ensures.grew (c.fill-count.ensures.none w.in-None.is))
    ]
