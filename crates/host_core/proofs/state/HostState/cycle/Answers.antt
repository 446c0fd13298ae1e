use Rattle.std.proofs.Common.{◌≡◌, ◌∙◌, ap, arith, length, ℕ, List, get_or}
use Rattle.host_ledger.specs.declared.entries.Entry.{Entry}
use Rattle.host_ledger.specs.Sums.{cycle}
use Rattle.host_core.specs.State.{State}
use Rattle.host_core.proofs.CycleEnds.{one_date_more, present}
use Rattle.host_core.proofs.state.HostState.cycle.Goals as goal

pub bounds-cycles-as_slice : goal.bounds-cycles-as_slice
bounds-cycles-as_slice c =
    let entries : length c.as_slice.result.now ≡ length c.self.inside.entries.items = ap length c.as_slice.ensures.value in
    let cycles : length c.as_slice-cycles.result.now ≡ length c.self.inside.cycles.items = ap length c.as_slice-cycles.ensures.value in
    omega (arith, entries, cycles, one_date_more c.self.inside.config c.self.inside.entries.items c.self.inside.cycles.items c.self.invariant.2.dates)

pub returns : goal.returns
returns c =
    let date : ℕ = c.index-cycles-as_slice.result in
    c.index-cycles-as_slice.is
    ∙ ap (λ (l : List ℕ). get_or l (length c.as_slice.result.now) date) c.as_slice-cycles.ensures.value
    ∙ ap (λ (l : List Entry). get_or c.self.inside.cycles.items (length l) date) c.as_slice.ensures.value
    ∙ present c.self.inside.config c.self.inside.entries.items c.self.inside.cycles.items date c.self.invariant.2.dates
    ∙ ap (λ (s : State). cycle s.config s.entries) c.self.view_is
