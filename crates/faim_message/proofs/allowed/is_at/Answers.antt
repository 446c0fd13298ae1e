use Rattle.std.proofs.Common.{◌≡◌, ℕ, get_or, sym, ap, ◌∙◌, arith}
use Rattle.std.proofs.lemmas.Bool.{eqb-true}
use Rattle.faim_tags.specs.Spelling.{Tag}
use Rattle.faim_message.proofs.Finds.{number_at}
use Rattle.faim_message.proofs.allowed.is_at.Goals as goal

pub returns-in-Some : goal.returns-in-Some
returns-in-Some c same =
    let number : Tag → ℕ = λ t. t.no in
    let here = c.in-Some.ensures.lookup in
    let is : (get_or c.args.tags.now c.args.place c.in-Some.tag.now).no ≡ c.args.number =
    ap number (sym here.1) ∙ ap number (sym c.tag.view_is) ∙ sym c.get-in-Some.ensures.value ∙ eqb-true c.get-in-Some.result c.args.number same in
    number_at c.args.tags.now c.args.place c.in-Some.tag.now c.args.number (omega arith) is
