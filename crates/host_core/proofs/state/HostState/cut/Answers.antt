use Rattle.std.proofs.Common.{◌∙◌, ap, arith, length, ◌<◌}
use Rattle.host_core.specs.State.{State}
use Rattle.host_core.proofs.Holding.{one_less}
use Rattle.host_core.proofs.state.HostState.cut.Goals as goal

pub loop-self-preserved : goal.loop-self-preserved
loop-self-preserved c =
    let more : c.args.len < length c.loop-self.self.entries = omega (arith, c.loop-self-test.true, c.len.ensures) in
    record {
      config = ap (λ (s : State). s.config) c.take_back.ensures ∙ c.loop-self.invariant.config;
      stay = one_less c.args.len c.loop-self.self.entries c.take_back.new.self.entries more (ap (λ (s : State). s.entries) c.take_back.ensures) ∙ c.loop-self.invariant.stay;
    }
