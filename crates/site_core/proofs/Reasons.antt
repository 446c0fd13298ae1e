-- The one reason why a device call failed.
use Rattle.std.proofs.Common.{◌≡◌, ◌-◌, ◌^◌, ◌<◌, ⊎_elim, false, arith}
use Rattle.std.specs.Prelude.{IsTrue}
use Rattle.site_core.specs.Counts.{Rose}
use Rattle.site_core.specs.Told.{Told, Part, unarmed, HasOneReason}

module _ (part : Part) (a b : Told) (one : HasOneReason part a b) where
  pub when_stopped : IsTrue a.stopped → a.calls < 2 ^ 64 - 1 → (b.stops ≡ a.stops) × (b.lacks ≡ a.lacks) × (unarmed part b ≡ unarmed part a)
  when_stopped stopped less = ⊎_elim
      (λ disturbed. ⊎_elim
      (λ before. (before.1, before.2, before.3))
      (λ more. ⊎_elim (λ reached. absurd (cc (reached.0))) (λ lacking. absurd (cc (lacking.0))) more)
      disturbed)
      (λ none. ⊎_elim (λ running. absurd (cc running)) (λ full. absurd (omega (arith, full, less))) none.0)
      one

  pub when_stops : a.stops < b.stops → unarmed part b ≡ unarmed part a
  when_stops rose = ⊎_elim
      (λ disturbed. ⊎_elim
      (λ before. before.3)
      (λ more. ⊎_elim (λ reached. reached.3) (λ lacking. lacking.3) more)
      disturbed)
      (λ none. absurd (omega (arith, none.1, rose)))
      one

  pub when_lacks : a.lacks < b.lacks → (a.stopped ≡ false) × (unarmed part b ≡ unarmed part a)
  when_lacks rose = ⊎_elim
      (λ disturbed. ⊎_elim
      (λ before. absurd (omega (arith, before.2, rose)))
      (λ more. ⊎_elim (λ reached. (reached.0, reached.3)) (λ lacking. (lacking.0, lacking.3)) more)
      disturbed)
      (λ none. absurd (omega (arith, none.2, rose)))
      one

  pub when_unarmed : unarmed part a < unarmed part b → (b.stops ≡ a.stops) × (b.lacks ≡ a.lacks)
  when_unarmed rose = ⊎_elim
      (λ disturbed. ⊎_elim
      (λ before. absurd (omega (arith, before.3, rose)))
      (λ more. ⊎_elim (λ reached. absurd (omega (arith, reached.3, rose))) (λ lacking. absurd (omega (arith, lacking.3, rose))) more)
      disturbed)
      (λ none. (none.1, none.2))
      one

  pub when_none : a.stopped ≡ false → b.stops ≡ a.stops → b.lacks ≡ a.lacks → a.lacks < 2 ^ 64 - 1 → Rose (unarmed part a) (unarmed part b)
  when_none running stops lacks less = ⊎_elim
      (λ disturbed. ⊎_elim
      (λ before. absurd (cc (before.0)))
      (λ more. ⊎_elim (λ reached. absurd (omega (arith, reached.1, stops))) (λ lacking. absurd (omega (arith, lacking.2, lacks, less))) more)
      disturbed)
      (λ none. none.3)
      one
