use Rattle.std.proofs.Common.{ℕ, min, ap, ◌∙◌, sym, arith}
use Rattle.faim_tags.proofs.LaneLemmas.{run_fewer}
use Rattle.faim_tags.proofs.classes.run_of_digits.Goals as goal

pub returns-then-bytes-ge-LANES : goal.returns-then-bytes-ge-LANES
returns-then-bytes-ge-LANES c =
    let some = c.digits_in_lanes.ensures in
    let fewer = run_fewer 110 c.args.most 16 c.args.bytes.now (omega arith) in
    c.min.ensures ∙ ap (λ (k : ℕ). min c.args.most k) some ∙ sym fewer
