use Rattle.std.proofs.Common.{◌≡◌, ℕ, take, ◌∙◌, ap, sym, arith}
use Rattle.host_index.specs.Index.{places_of}
use Rattle.host_index.proofs.Retrieving.{next_place, last_place, retrieved_rest, rest_from}
use Rattle.host_index.proofs.outputs.places_from.Goals as goal

pub returns-in-None : goal.returns-in-None
returns-in-None c =
    last_place c.count_before-first.result c.loop-step.step c.args.dest.now c.args.at.now c.args.outputs.now.entries c.numbered.result c.loop-step.places c.requires
    c.numbered.ensures.dest c.numbered.ensures.number c.in-None.ensures.value (omega (arith, c.loop-step-test.true)) c.count_before-first.ensures.count c.loop-step.invariant

pub loop-step-preserved : goal.loop-step-preserved
loop-step-preserved c =
    c.in_ok-push-in-Some.ensures.ok
    ∙ next_place c.count_before-first.result c.loop-step.step c.args.dest.now c.args.outputs.now.entries c.numbered.result c.in-Some.sent.now c.loop-step.places c.requires
    c.numbered.ensures.dest c.numbered.ensures.number c.in-Some.ensures.value c.loop-step.invariant

pub returns : goal.returns
returns c =
    let all : c.loop-step.step ≡ 64 = omega (arith, c.loop-step-test.false, c.loop-step.auto.step-end) in
    c.loop-step.invariant
    ∙ ap (λ (n : ℕ). places_of (take n (rest_from c.count_before-first.result c.args.dest.now c.args.outputs.now.entries))) all
    ∙ ap places_of (sym (retrieved_rest c.count_before-first.result c.args.dest.now c.args.at.now c.args.outputs.now.entries c.requires c.count_before-first.ensures.count))
