use Rattle.std.proofs.Common.{arith}
use Rattle.faim_message.proofs.RemainingLemmas.{front_listed, front_rising}
use Rattle.faim_message.proofs.remaining.Remaining.new.Goals as goal

pub invariant_of-result : goal.invariant_of-result
invariant_of-result c = (
  omega arith,
  c.permitted-all.ensures.few,
  front_listed c.permitted-all.result.now c.copy_from_slice.new.self _ c.args.form c.copy_from_slice.ensures.after c.permitted-all.ensures.value,
  front_rising c.permitted-all.result.now c.copy_from_slice.new.self _ c.args.form c.copy_from_slice.ensures.after c.permitted-all.ensures.value,
)
