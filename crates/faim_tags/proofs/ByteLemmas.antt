-- What one byte makes of the elements of a tag.
use Rattle.std.proofs.Common.{◌≡◌, ℕ, ◌+◌, ◌<◌, ◌≤◌, List, length, Option, Some, None, refl, sym, ap, subst, arith}
use Rattle.std.proofs.lemmas.List.{length_push}
use Rattle.faim_tags.specs.Layouts.{classes, maxima}
use Rattle.faim_tags.specs.Steps.{Progress, InNumber, Inside, step}
use Rattle.faim_tags.specs.Partial.{StandsFor, BothStand}
use Rattle.faim_tags.specs.declared.partial.TagPart.TheVariants.{Elements}
use Rattle.faim_tags.proofs.Runs.{step-star}

-- nothing goes on with the byte
pub none_on : (ns : List ℕ) (p : Progress) (b : ℕ) → step ns p b ≡ None → BothStand ns None (step ns p b)
none_on ns p b e =
    let Q : Option Progress → Type 0 = λ o. BothStand ns None o in
    subst Q (sym e) tt

-- a star
pub star_on : (ns : List ℕ) (n fixed stars part b : ℕ) (p : Progress) → length (classes n) ≤ fixed → stars < length (maxima n) → b ≡ 42 → StandsFor ns (Elements n fixed stars part) p → BothStand ns (Some (Elements n fixed (stars + 1) 0)) (step ns p b)
star_on ns n fixed stars part b (InNumber given) le lt star h = absurd h
star_on ns n fixed stars part b (Inside m fs ss last) le lt star h =
    let T = Some (Elements n fixed (stars + 1) 0) in
    let Q : Option Progress → Type 0 = λ o. BothStand ns T o in
    let R : ℕ → Type 0 = λ j. BothStand ns T (step ns (Inside j fs ss last) b) in
    let S : ℕ → Type 0 = λ j. BothStand ns T (step ns (Inside n fs ss last) j) in
    let go = step-star ns n fs ss last (omega (arith, le, h.1)) (omega (arith, lt, h.2)) in
    subst R h.0 (subst S (sym star) (subst Q (sym go) (refl, h.1, omega (arith, h.2, length_push ss last), refl)))
