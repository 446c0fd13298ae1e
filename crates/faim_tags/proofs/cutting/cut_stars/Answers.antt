use Rattle.std.proofs.Common.{◌≡◌, ℕ, ◌+◌, true, false, eqb, List, [], ◌∷◌, ◌++◌, length, get_or, take, drop, sym, ap, ◌∙◌}
use Rattle.std.proofs.lemmas.List.{length_push}
use Rattle.faim_tags.specs.Spelling.{starred}
use Rattle.faim_tags.specs.Parts.{text_length, closed_stars}
use Rattle.faim_tags.proofs.Greedy.{closed_on}
use Rattle.faim_tags.proofs.CutLemmas.{stars_stop}
use Rattle.faim_tags.proofs.cutting.cut_stars.Goals as goal

pub returns-then-not-is_star : goal.returns-then-not-is_star
returns-then-not-is_star c =
    let bytes = c.args.bytes.now in
    let maxima = c.args.maxima.now in
    let k = c.loop-most.most-index in
    let place = c.loop-most.place in
    let count = c.run_of_text-count.result in
    let rest : c.after-rest.result.now ≡ drop place bytes = c.after-rest.ensures in
    let counted : count ≡ text_length (get_or maxima k 0) (drop place bytes) = c.run_of_text-count.ensures ∙ ap (λ (m : ℕ). text_length m c.after-rest.result.now) c.from.ensures ∙ ap (text_length (get_or maxima k 0)) rest in
    let star : eqb (get_or (drop place bytes) count 0) 42 ≡ false = ap (λ (t : List ℕ). eqb (get_or t count 0) 42) (sym rest) ∙ sym c.is_star.ensures ∙ c.if-not-is_star.true in
    stars_stop maxima bytes c.loop-most.stars k place count c.loop-most-test.true c.loop-most.invariant.each c.loop-most.invariant.within c.loop-most.invariant.taken c.loop-most.invariant.on counted star

pub loop-most-preserved : goal.loop-most-preserved
loop-most-preserved c =
    let bytes = c.args.bytes.now in
    let maxima = c.args.maxima.now in
    let k = c.loop-most.most-index in
    let place = c.loop-most.place in
    let count = c.run_of_text-count.result in
    let rest : c.after-rest.result.now ≡ drop place bytes = c.after-rest.ensures in
    let counted : count ≡ text_length (get_or maxima k 0) (drop place bytes) = c.run_of_text-count.ensures ∙ ap (λ (m : ℕ). text_length m c.after-rest.result.now) c.from.ensures ∙ ap (text_length (get_or maxima k 0)) rest in
    let star : eqb (get_or (drop place bytes) count 0) 42 ≡ true = ap (λ (t : List ℕ). eqb (get_or t count 0) 42) (sym rest) ∙ sym c.is_star.ensures ∙ c.if-not-is_star.false in
    let w = closed_on maxima bytes c.loop-most.stars k place count c.loop-most-test.true c.loop-most.invariant.within counted star c.loop-most.invariant.taken in
    let part : c.in_ok-copied.field-0 ≡ take count (drop place bytes) = c.in_ok-copied.ensures.ok ∙ c.before-in-loop-most.ensures ∙ ap (take count) rest in
    let pushed : c.push.new.self ≡ c.loop-most.stars ++ take count (drop place bytes) ∷ [] = c.in_ok-push.ensures.ok ∙ ap (λ (s : List ℕ). c.loop-most.stars ++ s ∷ []) part in
    record {
      within = w.0;
      taken = w.1 ∙ ap (λ (x : List (List ℕ)). length (starred x true)) (sym pushed);
      each = ap length pushed ∙ length_push c.loop-most.stars (take count (drop place bytes)) ∙ ap (λ (j : ℕ). j + 1) c.loop-most.invariant.each;
      on = ap (λ (x : List (List ℕ)). x ++ closed_stars (drop (k + 1) maxima) (drop (place + (count + 1)) bytes)) pushed ∙ w.2 ∙ c.loop-most.invariant.on;
    }
