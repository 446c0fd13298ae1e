use Rattle.std.proofs.Common.{List, sym, subst, arith}
use Rattle.faim_tags.specs.Spelling.{Tag}
use Rattle.faim_message.specs.Cutting.{Rest}
use Rattle.faim_message.proofs.CutLemmas.{all_left, none_left}
use Rattle.faim_message.proofs.cutting.cut_tags.Goals as goal

pub loop-place-init : goal.loop-place-init
loop-place-init c form end =
    let P : List Tag → Type 0 = λ ts. Rest end.breaks end.tags ts c.args.bytes.now 0 in
    subst P (sym c.in_ok-tags.ensures.items) (all_left form c.args.bytes.now end)

pub next_tag-requires-clause-there : goal.next_tag-requires-clause-there
next_tag-requires-clause-there c = (c.requires.1.breaks, (c.requires.1.tags, c.loop-place.invariant c.requires.0 c.requires.1))

pub loop-place-preserved : goal.loop-place-preserved
loop-place-preserved c form end = c.in_ok-place.ensures.rest end.breaks end.tags (c.loop-place.invariant form end)

pub returns : goal.returns
returns c form end = none_left end.breaks end.tags c.loop-place.tags.items c.args.bytes.now c.loop-place.place (omega arith) (c.loop-place.invariant form end)
