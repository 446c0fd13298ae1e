use Rattle.std.proofs.Common.{[]}
use Rattle.faim_tags.specs.Steps.{InNumber, tag_of}
use Rattle.faim_tags.proofs.Meaning.{completes-found, fails-refuses, same_found}
use Rattle.faim_tags.proofs.Built.{reached_completes, reached_fails}
use Rattle.faim_tags.proofs.reading.read_tag_among.Goals as goal

pub returns-then-not-is_over-clause-refused : goal.returns-then-not-is_over-clause-refused
returns-then-not-is_over-clause-refused c =
    let ns = c.args.numbers.now in
    let bytes = c.args.bytes.now in
    let r = c.read-part.ensures.read (InNumber []) (c.start.ensures ns) in
    let fails = reached_fails ns (InNumber []) bytes c.read-part.result.1 c.read-part.result.0 c.after.result.now c.is_over.result c.stop_at.result r c.after.ensures (c.is_over.ensures ns r.last r.stands) c.if-not-is_over.true c.stop_at.ensures.byte c.stop_at.ensures.cut in
    fails-refuses ns bytes c.stop_at.result (record { some = c.requires.some; listed = c.requires.listed }) fails

pub cut_tag-requires : goal.cut_tag-requires
cut_tag-requires c =
    let ns = c.args.numbers.now in
    let bytes = c.args.bytes.now in
    let r = c.read-part.ensures.read (InNumber []) (c.start.ensures ns) in
    let all = reached_completes ns (InNumber []) bytes c.read-part.result.1 c.read-part.result.0 c.after.result.now c.is_over.result r c.after.ensures (c.is_over.ensures ns r.last r.stands) c.if-not-is_over.false in
    record { numbers = ns; tag = tag_of r.last; size = c.read-part.result.1; found = completes-found ns bytes (tag_of r.last) c.read-part.result.1 (record { some = c.requires.some; listed = c.requires.listed }) all }

pub returns-in-Ok-clause-found : goal.returns-in-Ok-clause-found
returns-in-Ok-clause-found c =
    let ns = c.args.numbers.now in
    let bytes = c.args.bytes.now in
    let r = c.read-part.ensures.read (InNumber []) (c.start.ensures ns) in
    let all = reached_completes ns (InNumber []) bytes c.read-part.result.1 c.read-part.result.0 c.after.result.now c.is_over.result r c.after.ensures (c.is_over.ensures ns r.last r.stands) c.if-not-is_over.false in
    let found = completes-found ns bytes (tag_of r.last) c.read-part.result.1 (record { some = c.requires.some; listed = c.requires.listed }) all in
    let same = c.in-Ok.ensures ns (tag_of r.last) c.read-part.result.1 found in
    same_found ns bytes (tag_of r.last) c.in-Ok.found.0 c.read-part.result.1 c.in-Ok.found.1 found same.0 same.1
