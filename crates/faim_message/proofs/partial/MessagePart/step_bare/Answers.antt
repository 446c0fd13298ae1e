use Rattle.std.proofs.Common.{[], List, ℕ, refl, subst}
use Rattle.faim_tags.specs.Steps.{InNumber, step}
use Rattle.faim_tags.specs.Partial.{BothStand}
use Rattle.std.proofs.Common.{Some, None}
use Rattle.faim_message.specs.declared.so_far.BreakSoFar.TheVariants.{Bare}
use Rattle.faim_message.specs.Stages.{open_numbers}
use Rattle.faim_message.proofs.PartialLemmas.{bare_on, bare_off}
use Rattle.faim_message.proofs.partial.MessagePart.step_bare.Goals as goal

pub returns-in-Some-clause-goes : goal.returns-in-Some-clause-goes
returns-in-Some-clause-goes c form tags k =
    let P : List ℕ → Type 0 = λ ns. BothStand ns (Some c.in-Some.tag) (step ns (InNumber []) c.args.b) in
    bare_on _ form tags c.args.b c.in-Some.tag (step (open_numbers form tags) (InNumber []) c.args.b) (record { form_is = k.form_is; any_is = k.any_is; left_is = k.left_is }) refl refl
    (subst P (c.open.ensures.«open» form tags (record { form_is = k.form_is; any_is = k.any_is; left_is = k.left_is })) (c.in-Some.ensures (InNumber []) (c.start.ensures c.open.result.now)))

pub returns-in-None-clause-goes : goal.returns-in-None-clause-goes
returns-in-None-clause-goes c form tags k =
    let P : List ℕ → Type 0 = λ ns. BothStand ns None (step ns (InNumber []) c.args.b) in
    bare_off
    (record { form = c.args.self.now.form; any = c.args.self.now.any; remaining = c.args.self.now.remaining; so_far = Bare; tag = c.args.self.now.tag }) form tags (step (open_numbers form tags) (InNumber []) c.args.b)
    (subst P (c.open.ensures.«open» form tags (record { form_is = k.form_is; any_is = k.any_is; left_is = k.left_is })) (c.in-None.ensures (InNumber []) (c.start.ensures c.open.result.now)))
