use Rattle.std.proofs.Common.{◌≡◌, ◌<◌, ◌≤◌, length, get_or, ap, arith}
use Rattle.std.proofs.lemmas.List.{get_or_past}
use Rattle.faim_tags.specs.Layouts.{classes, maxima}
use Rattle.faim_tags.proofs.RunLemmas.{star_stop}
use Rattle.faim_tags.proofs.ByteLemmas.{none_on, star_on}
use Rattle.faim_tags.proofs.partial.go_on.Goals as goal

pub returns-then-layout-stars-clause-off : goal.returns-then-layout-stars-clause-off
returns-then-layout-stars-clause-off c off ns p h =
    let past : length (maxima c.args.no) ≤ c.args.stars.now = omega (arith, c.if-layout-stars.true, ap length c.sized_layout-layout.ensures.stars) in
    let none : get_or (maxima c.args.no) c.args.stars.now 0 ≡ 0 = get_or_past (maxima c.args.no) c.args.stars.now 0 past in
    let whole : length (classes c.args.no) ≤ c.args.fixed.now = omega (arith, c.if-fixed-layout.false, ap length c.sized_layout-layout.ensures.classes) in
    none_on ns p c.args.b (star_stop ns c.args.no c.args.fixed.now c.args.stars.now c.args.part.now c.args.b p whole (λ l. absurd (omega (arith, l, past))) (λ l. absurd (omega (arith, l, none))) h)

pub returns-then-b-eq42-clause-on : goal.returns-then-b-eq42-clause-on
returns-then-b-eq42-clause-on c on ns p h =
    let whole : length (classes c.args.no) ≤ c.args.fixed.now = omega (arith, c.if-fixed-layout.false, ap length c.sized_layout-layout.ensures.classes) in
    let more : c.args.stars.now < length (maxima c.args.no) = omega (arith, c.if-layout-stars.false, ap length c.sized_layout-layout.ensures.stars) in
    star_on ns c.args.no c.args.fixed.now c.args.stars.now c.args.part.now c.args.b p whole more c.if-b-eq42.true h
