use Rattle.std.proofs.Common.{◌≡◌, Option, Some, None, refl, sym, ap, ◌∙◌}
use Rattle.std.specs.Prelude.{is_some}
use Rattle.std.specs.Borrow.{Bor}
use Rattle.std.specs.Option.{option_copied}
use Rattle.faim_tags.specs.Spelling.{Tag}
use Rattle.faim_message.proofs.Finds.{finds_among}
use Rattle.faim_message.proofs.allowed.has.Goals as goal

copied_there : (o : Option (Bor Tag)) → is_some (option_copied o) ≡ is_some o
copied_there None = refl
copied_there (Some v) = refl

pub returns : goal.returns
returns c = c.is_some.ensures ∙ sym (copied_there c.tag_with.result) ∙ ap is_some c.tag_with.ensures ∙ finds_among c.args.number c.args.tags.now
