use Rattle.std.proofs.Common.{◌≡◌, ⊎_elim, ℕ, ◌+◌, ◌-◌, ◌<◌, ◌≤◌, min, List, [], ◌∷◌, ◌++◌, length, take, replicate, Some, ap, ◌∙◌, refl, arith, sym, get_or, append_assoc, append-nil, slice_index}
use Rattle.std.proofs.lemmas.List.{get_or_default, take_more, take_all, replicate_more}
use Rattle.std.proofs.lemmas.Bool.{cases_lt}
use Rattle.site_core.specs.Readings.{reading_at, first_readings}
use Rattle.site_core.proofs.memory_clock.MemClockClock.now.Goals as goal

module _ (readings : List ℕ) (n : ℕ) where
  -- where the list goes on, one reading more is its next
  next : n < length readings → first_readings readings (n + 1) ≡ first_readings readings n ++ reading_at readings n ∷ []
  next short =
      let none : n - length readings ≡ 0 = omega (arith, short) in
      let none' : n + 1 - length readings ≡ 0 = omega (arith, short) in
      let here : min n (length readings - 1) ≡ n = omega (arith, short) in
      rw (none, none', here, append-nil (take n readings), append-nil (take (n + 1) readings)) (take_more readings n 0 short)

  -- past its end it is the last one
  again : length readings ≤ n → first_readings readings (n + 1) ≡ first_readings readings n ++ reading_at readings n ∷ []
  again long =
      let last = slice_index readings (length readings - 1) in
      let more : n + 1 - length readings ≡ n - length readings + 1 = omega (arith, long) in
      let past : min n (length readings - 1) ≡ length readings - 1 = omega (arith, long) in
      rw (more, past, take_all n readings long, take_all (n + 1) readings (omega (arith, long)), sym (replicate_more (n - length readings) last), append_assoc readings (replicate (n - length readings) last) (last ∷ [])) refl

  one_more : first_readings readings (n + 1) ≡ first_readings readings n ++ reading_at readings n ∷ []
  one_more = ⊎_elim (λ short. next short) (λ long. again long) (cases_lt n (length readings))

pub returns-clause-reading : goal.returns-clause-reading
returns-clause-reading c =
    let readings = c.args.self.now.readings in
    let n = c.args.self.now.count in
    let given = c.index-readings-place.result in
    let default : reading_at readings n ≡ get_or readings (min n (length readings - 1)) given = get_or_default readings (min n (length readings - 1)) 0 given (omega arith) in
    let same : reading_at readings n ≡ given = cc in
    ap Some (one_more readings n ∙ ap (λ reading. first_readings readings n ++ reading ∷ []) same)
