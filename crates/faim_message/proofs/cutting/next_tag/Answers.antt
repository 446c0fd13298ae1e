use Rattle.std.proofs.Common.{◌+◌, List, sym, subst, arith}
use Rattle.faim_tags.specs.Spelling.{Tag}
use Rattle.faim_message.specs.Cutting.{Rest}
use Rattle.faim_message.proofs.CutLemmas.{over_byte, tag_ahead, over_tag, tag_within}
use Rattle.faim_message.proofs.cutting.next_tag.Goals as goal

pub returns-then-bytes-place-ne123-clause-rest : goal.returns-then-bytes-place-ne123-clause-rest
returns-then-bytes-place-ne123-clause-rest c breaks whole r =
    over_byte breaks whole c.args.tags.now.items c.args.bytes.now c.args.place c.requires.place c.if-bytes-place-ne123.true r

pub cut_tag-requires : goal.cut_tag-requires
cut_tag-requires c =
    let t = c.requires.there in
    tag_ahead t.0 t.1.0 c.args.tags.now.items c.args.bytes.now c.after.result.now c.args.place c.requires.place c.if-bytes-place-ne123.false c.after.ensures t.1.1

pub overflow_add-result-2 : goal.overflow_add-result-2
overflow_add-result-2 c =
    let t = c.requires.there in
    let within = tag_within t.0 t.1.0 c.args.tags.now.items c.args.bytes.now c.after.result.now c.args.place c.in-Ok.cut.0 c.in-Ok.cut.1 c.requires.place c.if-bytes-place-ne123.false c.after.ensures c.in-Ok.ensures t.1.1 in
    omega (arith, within.1)

pub returns-clause-within : goal.returns-clause-within
returns-clause-within c =
    let t = c.requires.there in
    tag_within t.0 t.1.0 c.args.tags.now.items c.args.bytes.now c.after.result.now c.args.place c.in-Ok.cut.0 c.in-Ok.cut.1 c.requires.place c.if-bytes-place-ne123.false c.after.ensures c.in-Ok.ensures t.1.1

pub returns-clause-rest : goal.returns-clause-rest
returns-clause-rest c breaks whole r =
    let Q : List Tag → Type 0 = λ ts. Rest breaks whole ts c.args.bytes.now (c.args.place + c.in-Ok.cut.1) in
    subst Q (sym c.in_ok-push.ensures.items) (over_tag breaks whole c.args.tags.now.items c.args.bytes.now c.after.result.now c.args.place c.in-Ok.cut.0 c.in-Ok.cut.1 c.requires.place c.if-bytes-place-ne123.false c.after.ensures c.in-Ok.ensures r)
