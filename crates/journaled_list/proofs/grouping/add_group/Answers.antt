use Rattle.std.proofs.Common.{arith, length, drop, sym, ◌+◌, ◌≡◌, ◌≤◌, List, ℕ, Err, subst}
use Rattle.torn_journal.specs.declared.visit.VisitFault.{VisitFault}
use Rattle.torn_journal.specs.declared.visit.VisitFault.TheVariants.{Bad}
use Rattle.journaled_list.specs.Reading.{AddsOne, IsWithin}
use Rattle.journaled_list.proofs.Within.{within_more, within_bad, within_empty}
use Rattle.journaled_list.proofs.grouping.add_group.Goals as goal

pub returns-in-Err-Bad : goal.returns-in-Err-Bad
returns-in-Err-Bad g c =
    let rules = g.L.Journaled.rules in
    let some : 1 ≤ length c.loop-rest.rest.now = grind arith in
    let none : AddsOne rules (Err Bad) (g.L.Journaled.list c.loop-rest.list) (g.L.Journaled.list c.add.new.self) c.loop-rest.rest.now =
    subst (λ (f : VisitFault). AddsOne rules (Err f) (g.L.Journaled.list c.loop-rest.list) (g.L.Journaled.list c.add.new.self) c.loop-rest.rest.now) c.in-Err-Bad.field-0-is c.in-Err-Bad.ensures in
    within_bad rules (g.met.L.Journaled.read_once) (g.L.Journaled.list c.args.list.now) (g.L.Journaled.list c.loop-rest.list) c.args.payload.now c.loop-rest.rest.now c.loop-rest.count c.loop-rest.invariant some none

pub loop-rest-preserved : goal.loop-rest-preserved
loop-rest-preserved g c =
    let rules = g.L.Journaled.rules in
    let added = c.in-Ok.ensures in
    subst (λ (l : List ℕ). IsWithin rules (g.L.Journaled.list c.args.list.now) (g.L.Journaled.list c.add.new.self) c.args.payload.now l (c.loop-rest.count + 1)) (sym c.after-rest.ensures)
    (within_more rules (g.met.L.Journaled.read_once) (g.L.Journaled.list c.args.list.now) (g.L.Journaled.list c.loop-rest.list) c.args.payload.now c.loop-rest.rest.now c.loop-rest.count c.loop-rest.invariant
    added.0 (drop c.in-Ok.size c.loop-rest.rest.now) (g.L.Journaled.list c.add.new.self) added.1 added.3)

pub returns-then-count-eq0 : goal.returns-then-count-eq0
returns-then-count-eq0 g c =
    let none : length c.loop-rest.rest.now ≡ 0 = grind arith in
    let zero : c.loop-rest.count ≡ 0 = grind arith in
    within_empty g.L.Journaled.rules (g.met.L.Journaled.read_once) (g.L.Journaled.list c.args.list.now) (g.L.Journaled.list c.loop-rest.list) c.args.payload.now c.loop-rest.rest.now c.loop-rest.count c.loop-rest.invariant none zero
