use Rattle.std.proofs.Common.{sym, ◌∙◌, arith}
use Rattle.faim_tags.proofs.Counts.{run_more, run_stop, run_over}
use Rattle.faim_tags.proofs.classes.digits_one_by_one.Goals as goal

pub returns-then-not-is_digit : goal.returns-then-not-is_digit
returns-then-not-is_digit c =
    omega (arith, run_stop 110 c.args.most c.min.result c.loop-b.b-index c.args.bytes.now c.before-b-items.result.now c.before-b-items.ensures c.min.ensures c.loop-b-test.true (sym c.is_digit.ensures ∙ c.if-not-is_digit.true))

pub loop-b-preserved : goal.loop-b-preserved
loop-b-preserved c = record {
  counted = omega arith;
  on = omega (arith, run_more 110 c.args.most c.min.result c.loop-b.b-index c.args.bytes.now c.before-b-items.result.now c.before-b-items.ensures c.min.ensures c.loop-b-test.true (sym c.is_digit.ensures ∙ c.if-not-is_digit.false));
}

pub returns : goal.returns
returns c = omega (arith, run_over 110 c.args.most c.min.result c.loop-b.b-index c.args.bytes.now c.before-b-items.result.now c.before-b-items.ensures c.min.ensures (omega arith))
