use Rattle.std.proofs.Common.{◌≡◌, ◌∙◌, ℕ, Option, Some, None, ap, sym}
use Rattle.faim_message.specs.Edits.{first_failed}
use Rattle.faim_message.specs.Spelling.{message_spelling}
use Rattle.faim_top.specs.Checks.{failed_edit}
use Rattle.faim_top.proofs.Tried.{told_of}
use Rattle.faim_top.proofs.answers.tried.Goals as goal

pub returns-in-Some : goal.returns-in-Some
returns-in-Some c =
    let found : Some c.in-Some.number ≡ failed_edit c.args.message.now =
    sym c.in-Some.is ∙ c.first_failed.ensures ∙ ap (λ (e : ℕ). first_failed e c.args.message.now) c.env_of.ensures.value in
    told_of c.failed.result (λ v. v.items) (message_spelling c.args.message.now) (Some c.in-Some.number) (failed_edit c.args.message.now) found c.failed.ensures

pub returns-in-None : goal.returns-in-None
returns-in-None c =
    let none : Option ℕ = None in
    let found : none ≡ failed_edit c.args.message.now =
    sym c.in-None.is ∙ c.first_failed.ensures ∙ ap (λ (e : ℕ). first_failed e c.args.message.now) c.env_of.ensures.value in
    told_of c.accepted.result (λ v. v.items) (message_spelling c.args.message.now) None (failed_edit c.args.message.now) found c.accepted.ensures
