use Rattle.std.proofs.Common.{◌≡◌, ℕ, ◌+◌, ◌-◌, length, drop, ap, ◌∙◌, sym, arith}
use Rattle.std.proofs.lemmas.List.{length-drop}
use Rattle.faim_tags.specs.Parts.{text_length}
use Rattle.faim_tags.proofs.LaneLemmas.{run_stopped, run_on, run_full}
use Rattle.faim_tags.proofs.Greedy.{text_length-short}
use Rattle.faim_tags.proofs.classes.run_of_text.Goals as goal

pub returns-then-run-lt-LANES : goal.returns-then-run-lt-LANES
returns-then-run-lt-LANES c =
    let n = c.loop-count.count in
    c.min.ensures ∙ run_stopped 116 c.args.most n 16 c.text_in_lanes-run.result c.args.bytes.now c.loop-count.invariant.all c.text_in_lanes-run.ensures c.if-run-lt-LANES.true

pub loop-count-preserved : goal.loop-count-preserved
loop-count-preserved c =
    let n = c.loop-count.count in
    record {
      within = omega (arith, c.if-bytes-count-ge-LANES.true, c.loop-count.invariant.within);
      all = run_on 116 n 16 c.args.bytes.now c.loop-count.invariant.all ∙ omega (arith, text_length-short 16 (drop n c.args.bytes.now), c.text_in_lanes-run.ensures, c.if-run-lt-LANES.false);
    }

pub overflow_add-result : goal.overflow_add-result
overflow_add-result c =
    let left = c.args.most - c.loop-count.count in
    omega (arith, c.text_one_by_one.ensures, (text_length-short left c.after.result.now).1, ap length c.after.ensures, length-drop c.loop-count.count c.args.bytes.now)

pub returns-then-most-count : goal.returns-then-most-count
returns-then-most-count c = run_full 116 c.loop-count.count c.args.most c.args.bytes.now c.loop-count.invariant.all c.if-most-count.true

pub returns-else-most-count : goal.returns-else-most-count
returns-else-most-count c =
    let n = c.loop-count.count in
    let bytes = c.args.bytes.now in
    let left = c.args.most - n in
    let whole : n + left ≡ c.args.most = omega (arith, c.if-most-count.false) in
    ap (λ (k : ℕ). n + k) (c.text_one_by_one.ensures ∙ ap (text_length left) c.after.ensures)
    ∙ sym (run_on 116 n left bytes c.loop-count.invariant.all) ∙ ap (λ (k : ℕ). text_length k bytes) whole
