use Rattle.std.proofs.Common.{◌≡◌, ℕ, true, List, Some, sym, ap, subst, ◌∙◌}
use Rattle.std.specs.Option.{option_copied}
use Rattle.faim_tags.specs.Layouts.{classes}
use Rattle.faim_tags.specs.Spelling.{Tag, fill}
use Rattle.faim_tags.specs.Reading.{is_among}
use Rattle.faim_tags.proofs.Ends.{fill-run}
use Rattle.faim_message.specs.declared.form.Form.TheVariants.{Input}
use Rattle.faim_message.specs.Forms.{mandatory}
use Rattle.faim_message.specs.Spelling.{numbers}
use Rattle.faim_message.proofs.Numbers.{all_at}
use Rattle.faim_message.proofs.Finds.{found_number, found_there}
use Rattle.faim_message.proofs.head.fixed_in.Goals as goal

pub returns-in-Some-clause-filled : goal.returns-in-Some-clause-filled
returns-in-Some-clause-filled c =
    let found : Some c.in-Some.tag.now ≡ _ = ap option_copied (sym c.in-Some.is) ∙ c.tag_with.ensures in
    let same : c.tag.inside.no ≡ c.args.number = ap (λ (v : Tag). v.no) c.tag.view_is ∙ found_number c.args.number c.args.tags.now c.in-Some.tag.now (sym found) in
    let P : ℕ → Type 0 = λ n. fill (classes n) c.as_slice.result.now ≡ true in
    let Q : List ℕ → Type 0 = λ bytes. fill (classes c.tag.inside.no) bytes ≡ true in
    subst P same (subst Q (sym c.as_slice.ensures) c.tag.invariant.filled)

pub returns-in-Some-clause-length : goal.returns-in-Some-clause-length
returns-in-Some-clause-length c = (fill-run (classes c.args.number) c.as_slice.result.now (returns-in-Some-clause-filled c)).1

pub returns-in-None-clause-filled : goal.returns-in-None-clause-filled
returns-in-None-clause-filled c = absurd (found_there c.args.number c.args.tags.now (all_at (is_among (numbers c.args.tags.now)) (mandatory Input) c.args.number c.requires.complete c.requires.mandatory) (sym c.tag_with.ensures ∙ ap option_copied c.in-None.is))

pub returns-in-None-clause-length : goal.returns-in-None-clause-length
returns-in-None-clause-length c = absurd (found_there c.args.number c.args.tags.now (all_at (is_among (numbers c.args.tags.now)) (mandatory Input) c.args.number c.requires.complete c.requires.mandatory) (sym c.tag_with.ensures ∙ ap option_copied c.in-None.is))
