use Rattle.std.proofs.Common.{◌≡◌, ◌<◌, ◌-◌, ◌+◌, ℕ, length, get_or, drop, replicate, ap, ◌∙◌, arith, rules}
use Rattle.std.proofs.lemmas.List.{length-drop, length-replicate}
use Rattle.faim_tags.specs.Layouts.{each_class}
use Rattle.faim_tags.specs.Parts.{run_length}
use Rattle.faim_tags.proofs.Counts.{run_length-short, from_part, from_through, from_length}
use Rattle.faim_tags.proofs.classes.run_from.Goals as goal

pub overflow_add-count : goal.overflow_add-count
overflow_add-count c =
    let e = get_or c.args.elements.now c.loop-class.class-index (0, 0) in
    omega (arith, (run_length-short (replicate c.saturating_sub-wanted.result e.0) c.after.result.now).1, c.run_of-run.ensures, ap length c.after.ensures, length-drop c.loop-class.count c.args.bytes.now)

pub returns-then-run-wanted-clause-within : goal.returns-then-run-wanted-clause-within
returns-then-run-wanted-clause-within c =
    let e = get_or c.args.elements.now c.loop-class.class-index (0, 0) in
    omega (arith, (run_length-short (replicate c.saturating_sub-wanted.result e.0) c.after.result.now).1, c.run_of-run.ensures, ap length c.after.ensures, length-drop c.loop-class.count c.args.bytes.now)

pub returns-then-run-wanted-clause-run : goal.returns-then-run-wanted-clause-run
returns-then-run-wanted-clause-run c =
    let elements = c.args.elements.now in
    let k = c.loop-class.class-index in
    let skipped = c.loop-class.skipped in
    let e = get_or elements k (0, 0) in
    let wanted : c.saturating_sub-wanted.result ≡ e.1 - skipped = c.saturating_sub-wanted.ensures ∙ ap (λ (j : ℕ). j - skipped) c.from.ensures in
    let run : c.run_of-run.result ≡ run_length (replicate (e.1 - skipped) e.0) (drop c.loop-class.count c.args.bytes.now) =
    c.run_of-run.ensures ∙ ap (λ (j : ℕ). run_length (replicate j e.0) c.after.result.now) wanted ∙ ap (run_length (replicate (e.1 - skipped) e.0)) c.after.ensures in
    omega (arith, from_part elements (drop c.loop-class.count c.args.bytes.now) k skipped c.run_of-run.result c.loop-class-test.true run (omega arith))

pub loop-class-preserved : goal.loop-class-preserved
loop-class-preserved c =
    let elements = c.args.elements.now in
    let bytes = c.args.bytes.now in
    let k = c.loop-class.class-index in
    let skipped = c.loop-class.skipped in
    let count = c.loop-class.count in
    let e = get_or elements k (0, 0) in
    let byte : e.1 < 256 = search rules in
    let wanted : c.saturating_sub-wanted.result ≡ e.1 - skipped = c.saturating_sub-wanted.ensures ∙ ap (λ (j : ℕ). j - skipped) c.from.ensures in
    let run : c.run_of-run.result ≡ run_length (replicate (e.1 - skipped) e.0) (drop count bytes) =
    c.run_of-run.ensures ∙ ap (λ (j : ℕ). run_length (replicate j e.0) c.after.result.now) wanted ∙ ap (run_length (replicate (e.1 - skipped) e.0)) c.after.ensures in
    let short = run_length-short (replicate (e.1 - skipped) e.0) (drop count bytes) in
    let left : c.saturating_sub-skipped.result ≡ skipped - e.1 = c.saturating_sub-skipped.ensures ∙ ap (λ (j : ℕ). skipped - j) c.from-in-loop-class.ensures in
    record {
      within = omega (arith, short.1, run, length-drop count bytes);
      on = omega (arith, from_through elements bytes k skipped count c.run_of-run.result c.loop-class-test.true run (omega arith), ap (λ (j : ℕ). run_length (drop j (each_class (drop (k + 1) elements))) (drop (count + c.run_of-run.result) bytes)) left);
      left = omega (arith, from_length elements k skipped c.loop-class-test.true, ap (λ (j : ℕ). length (drop j (each_class (drop (k + 1) elements)))) left, short.0, run, length-replicate {A = ℕ} (e.1 - skipped) e.0);
      near = omega (arith, left, byte);
      room = omega (arith, short.0, short.1, run, length-replicate {A = ℕ} (e.1 - skipped) e.0, length-drop count bytes, byte);
    }
