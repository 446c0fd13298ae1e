use Rattle.std.proofs.Common.{Bool, true, sym, subst}
use Rattle.std.specs.Prelude.{IfOk, IsTrue, ◌↔◌}
use Rattle.std.proofs.lemmas.Result.{IfOk-weaker}
use Rattle.host_node.specs.Following.{HasVerdict, WasVerdict}
use Rattle.host_node.proofs.NextEntries.{was_resent}
use Rattle.host_node.proofs.following.was_verdict.Goals as goal

pub returns-then-resent : goal.returns-then-resent
returns-then-resent c =
    let s = c.args.state.now in
    let h = c.args.head.now in
    let body = c.args.body.now in
    let v = c.args.wanted.now in
    subst (λ (resent : Bool). IfOk c.has_verdict.result (λ b. IsTrue b ↔ WasVerdict s.config s.entries h body resent c.args.moment v)) (sym c.if-resent.true)
    (IfOk-weaker c.has_verdict.result (λ b. IsTrue b ↔ HasVerdict s.config s.entries h body 80 c.args.moment v)
    (λ b. IsTrue b ↔ WasVerdict s.config s.entries h body true c.args.moment v)
    (λ b test. was_resent s.config s.entries h body c.args.moment v b test) c.has_verdict.ensures)
