use Rattle.std.proofs.Common.{ℕ, ◌+◌, List, ◌++◌, ap, take, ◌∙◌}
use Rattle.bank_turns.specs.BankSteps.{reminded}
use Rattle.bank_node.proofs.Reminded.{again_at, all_submitted, one_more, stands_below}
use Rattle.bank_node.proofs.reminding.submit_again.Goals as goal

pub submit_at-requires : goal.submit_at-requires
submit_at-requires c = stands_below c.args.list.now.entries c.args.places.now c.loop-number.number c.requires c.loop-number-test.true

pub loop-number-preserved : goal.loop-number-preserved
loop-number-preserved c =
    let es = c.args.list.now.entries in
    let n = c.loop-number.number in
    let next = again_at es c.args.places.now n c.requires c.loop-number-test.true in
    one_more c.args.outbox.now c.loop-number.outbox c.submit_at.new.outbox (take n (reminded es)) (take (n + 1) (reminded es)) next.draft
    c.loop-number.invariant (c.in_ok-submit_at.ensures next.draft next.stands) next.more

pub returns : goal.returns
returns c =
    c.loop-number.invariant
    ∙ ap (λ (l : List (List ℕ)). c.args.outbox.now ++ l)
    (all_submitted c.args.list.now.entries c.args.places.now c.loop-number.number c.requires c.loop-number-test.false)
