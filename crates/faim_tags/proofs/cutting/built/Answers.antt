use Rattle.std.proofs.Common.{◌≡◌, ℕ, Bool, true, false, eqb, not, List, [], ◌∷◌, ◌++◌, length, sym, ap, subst, ◌∙◌}
use Rattle.faim_tags.specs.Spelling.{IsTag}
use Rattle.faim_tags.specs.Steps.{Inside, tag_of}
use Rattle.faim_tags.proofs.Built.{tag_without, tag_with}
use Rattle.faim_tags.proofs.cutting.built.Goals as goal

without_part : (n : ℕ) (fixed copy : List ℕ) (stars view : List (List ℕ)) (part : List ℕ) (empty none : Bool) → copy ≡ fixed → view ≡ stars → empty ≡ eqb (length part) 0 → empty ≡ true → none ≡ eqb (length view) 0 → tag_of (Inside n fixed stars part) ≡ record { no = n; fixed = copy; stars = stars; closed = not none }
without_part n fixed copy stars view part empty none f v e t o =
    tag_without n fixed stars part none (sym e ∙ t) (o ∙ ap (λ (x : List (List ℕ)). eqb (length x) 0) v)
    ∙ ap (λ (x : List ℕ). record { no = n; fixed = x; stars = stars; closed = not none }) (sym f)

with_part : (n : ℕ) (fixed copy : List ℕ) (stars new : List (List ℕ)) (part item : List ℕ) (empty : Bool) → copy ≡ fixed → item ≡ part → new ≡ stars ++ item ∷ [] → empty ≡ eqb (length part) 0 → empty ≡ false → tag_of (Inside n fixed stars part) ≡ record { no = n; fixed = copy; stars = new; closed = false }
with_part n fixed copy stars new part item empty f i p e t =
    tag_with n fixed stars part (sym e ∙ t)
    ∙ ap (λ (x : List ℕ). record { no = n; fixed = x; stars = stars ++ part ∷ []; closed = false }) (sym f)
    ∙ ap (λ (x : List ℕ). record { no = n; fixed = copy; stars = stars ++ x ∷ []; closed = false }) (sym i)
    ∙ ap (λ (x : List (List ℕ)). record { no = n; fixed = copy; stars = x; closed = false }) (sym p)

pub invariant_of-result : goal.invariant_of-result
invariant_of-result c = subst IsTag (without_part c.args.no c.args.fixed.now c.in_ok-fixed.fixed c.args.stars c.as_slice.result.now c.args.part.now c.is_empty.result c.is_empty-closed.result c.in_ok-fixed.ensures.ok c.as_slice.ensures c.is_empty.ensures c.if-is_empty.true c.is_empty-closed.ensures) c.requires

pub returns-then-is_empty : goal.returns-then-is_empty
returns-then-is_empty c = sym (without_part c.args.no c.args.fixed.now c.in_ok-fixed.fixed c.args.stars c.as_slice.result.now c.args.part.now c.is_empty.result c.is_empty-closed.result c.in_ok-fixed.ensures.ok c.as_slice.ensures c.is_empty.ensures c.if-is_empty.true c.is_empty-closed.ensures)

pub invariant_of-result-2 : goal.invariant_of-result-2
invariant_of-result-2 c = subst IsTag (with_part c.args.no c.args.fixed.now c.in_ok-fixed.fixed c.args.stars c.push.new.self c.args.part.now c.in_ok-copied.field-0 c.is_empty.result c.in_ok-fixed.ensures.ok c.in_ok-copied.ensures.ok c.in_ok-push.ensures.ok c.is_empty.ensures c.if-is_empty.false) c.requires

pub returns : goal.returns
returns c = sym (with_part c.args.no c.args.fixed.now c.in_ok-fixed.fixed c.args.stars c.push.new.self c.args.part.now c.in_ok-copied.field-0 c.is_empty.result c.in_ok-fixed.ensures.ok c.in_ok-copied.ensures.ok c.in_ok-push.ensures.ok c.is_empty.ensures c.if-is_empty.false)
