use Rattle.std.proofs.Common.{◌≡◌, rules, ◌∙◌}
use Rattle.std.specs.Prelude.{is_some}
use Rattle.bank_texts.proofs.Founds.{is_there}
use Rattle.bank_texts.proofs.parts.has_tag.Goals as goal

pub returns : goal.returns
returns c =
    let some : c.is_some.result ≡ is_some c.tag_in.result = search rules in
    some ∙ is_there c.args.number c.args.m.now.tags c.tag_in.result c.tag_in.ensures.value
