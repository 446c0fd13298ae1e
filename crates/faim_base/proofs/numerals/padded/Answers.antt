use Rattle.std.proofs.Common.{◌+◌, ◌-◌, ◌%◌, ◌∙◌, sym, arith, length-set}
use Rattle.faim_base.proofs.DigitLemmas.{padded_step, padded_done}
use Rattle.faim_base.proofs.numerals.padded.Goals as goal

pub loop-i-preserved : goal.loop-i-preserved
loop-i-preserved c =
    let size = length-set c.loop-i.text (c.loop-i.i - 1) (48 + c.loop-i.left % 10) in
    record {
      within = omega (arith, c.loop-i.invariant.within);
      same_length = size ∙ c.loop-i.invariant.same_length;
      digits = padded_step c.loop-i.i c.loop-i.left c.loop-i.text (omega arith) c.loop-i.invariant.within ∙ c.loop-i.invariant.digits;
    }

pub returns : goal.returns
returns c = sym (padded_done c.loop-i.i c.loop-i.left c.loop-i.text c.loop-i-test.false) ∙ c.loop-i.invariant.digits
