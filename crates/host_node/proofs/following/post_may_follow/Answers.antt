use Rattle.std.proofs.Common.{Bool, true, false, subst}
use Rattle.std.specs.Prelude.{IsTrue, ◌↔◌}
use Rattle.std.proofs.lemmas.Result.{IfOk-weaker}
use Rattle.faim_model.specs.Lawful.{PostFollows}
use Rattle.host_node.specs.Following.{Keeps, WasVerdict}
use Rattle.host_node.proofs.NextEntries.{posts_early, posts_unkept, posts_where}
use Rattle.host_node.proofs.following.post_may_follow.Goals as goal

pub returns-then-not-is_in_time : goal.returns-then-not-is_in_time
returns-then-not-is_in_time c =
    let s = c.args.state.now in
    posts_early s.config s.entries c.args.head.now c.args.body.now c.args.resent c.args.moment c.args.verdict.now c.if-not-is_in_time.ensures

pub returns-in-Ok-true : goal.returns-in-Ok-true
returns-in-Ok-true c =
    let s = c.args.state.now in
    let h = c.args.head.now in
    let body = c.args.body.now in
    let v = c.args.verdict.now in
    let keeps : IsTrue true ↔ Keeps s.config.env h body = subst (λ (b : Bool). IsTrue b ↔ Keeps s.config.env h body) c.in-Ok-true.field-0-test c.in-Ok-true.ensures in
    IfOk-weaker c.was_verdict.result (λ b. IsTrue b ↔ WasVerdict s.config s.entries h body c.args.resent c.args.moment v)
    (λ b. IsTrue b ↔ PostFollows s.config s.entries h body c.args.resent c.args.moment v)
    (λ b test. posts_where s.config s.entries h body c.args.resent c.args.moment v b c.if-not-is_in_time.ensures keeps test) c.was_verdict.ensures

pub returns-in-Ok-false : goal.returns-in-Ok-false
returns-in-Ok-false c =
    let s = c.args.state.now in
    let keeps : IsTrue false ↔ Keeps s.config.env c.args.head.now c.args.body.now =
    subst (λ (b : Bool). IsTrue b ↔ Keeps s.config.env c.args.head.now c.args.body.now) c.in-Ok-false.field-0-test c.in-Ok-false.ensures in
    posts_unkept s.config s.entries c.args.head.now c.args.body.now c.args.resent c.args.moment c.args.verdict.now keeps
