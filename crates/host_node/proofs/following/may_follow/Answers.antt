use Rattle.std.proofs.Common.{List, ℕ, sym, subst}
use Rattle.std.specs.Prelude.{IfOk, IsTrue, ◌↔◌}
use Rattle.host_ledger.specs.declared.entries.Entry.{Entry}
use Rattle.faim_model.specs.Lawful.{Follows, PostFollows}
use Rattle.host_node.proofs.following.may_follow.Goals as goal

pub returns-in-Posted : goal.returns-in-Posted
returns-in-Posted c =
    let s = c.args.state.now in
    let p = c.in-Posted in
    subst (λ (x : Entry). IfOk c.post_may_follow.result (λ b. IsTrue b ↔ Follows s.config s.entries x)) (sym p.is)
    (subst (λ (l : List ℕ). IfOk c.post_may_follow.result (λ b. IsTrue b ↔ PostFollows s.config s.entries p.head l p.resent p.moment p.verdict)) c.as_slice.ensures c.post_may_follow.ensures)

pub returns-in-Roll : goal.returns-in-Roll
returns-in-Roll c =
    let s = c.args.state.now in
    subst (λ (x : Entry). IsTrue c.roll_may_follow.result ↔ Follows s.config s.entries x) (sym c.in-Roll.is) c.roll_may_follow.ensures
