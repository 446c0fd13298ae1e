use Rattle.std.proofs.Common.{◌≡◌, ◌∙◌, ap, sym, subst, arith, ℕ, List, ◌<◌, length, get_or, Some}
use Rattle.faim_model.specs.Lawful.{Lawful}
use Rattle.host_core.specs.Kept.{cycles_of}
use Rattle.host_core.specs.State.{State}
use Rattle.host_core.proofs.CycleEnds.{below, dates_counted, end_at, end_number, roll_elsewhere}
use Rattle.host_core.proofs.state.HostState.end_at.Goals as goal

pub returns-then-not-serves : goal.returns-then-not-serves
returns-then-not-serves c =
    sym (roll_elsewhere c.args.self.now.config c.args.self.now.entries c.args.dest c.args.place c.requires.0 c.requires.1 c.requires.2
    (sym c.serves.ensures ∙ c.if-not-serves.true))

pub index-date-requires : goal.index-date-requires
index-date-requires c =
    let dates : c.self.inside.cycles.items ≡ cycles_of c.args.self.now.config c.args.self.now.entries =
    c.self.invariant.2.dates ∙ ap (λ (s : State). cycles_of s.config s.entries) c.self.view_is in
    let counted : length c.self.inside.cycles.items ≡ length (cycles_of c.args.self.now.config c.args.self.now.entries) = ap length dates in
    let inside : c.args.place < length c.args.self.now.entries = below c.args.self.now.entries c.args.place _ c.requires.2 in
    omega (arith, counted, inside, dates_counted c.args.self.now.config c.args.self.now.entries, c.self.inside.cycles.ok.0)

pub numbered-requires : goal.numbered-requires
numbered-requires c =
    let date : ℕ = c.index-date.result.now in
    let lawful : Lawful c.args.self.now.config c.args.self.now.entries = subst (λ (s : State). Lawful s.config s.entries) c.self.view_is c.self.invariant.1 in
    let dates : c.self.inside.cycles.items ≡ cycles_of c.args.self.now.config c.args.self.now.entries =
    c.self.invariant.2.dates ∙ ap (λ (s : State). cycles_of s.config s.entries) c.self.view_is in
    let ended : date ≡ get_or (cycles_of c.args.self.now.config c.args.self.now.entries) c.args.place date =
    c.index-date.ensures ∙ ap (λ (l : List ℕ). get_or l c.args.place date) dates in
    let number = end_number c.args.self.now.config c.args.self.now.entries c.args.dest c.args.place c.requires.0 c.requires.1 date date lawful c.requires.2
    (sym c.serves.ensures ∙ c.if-not-serves.false) ended in (
      omega (arith, c.count.ensures, number.0),
      omega (arith, c.count.ensures, number.1),
    )

pub returns : goal.returns
returns c =
    let date : ℕ = c.index-date.result.now in
    let lawful : Lawful c.args.self.now.config c.args.self.now.entries = subst (λ (s : State). Lawful s.config s.entries) c.self.view_is c.self.invariant.1 in
    let dates : c.self.inside.cycles.items ≡ cycles_of c.args.self.now.config c.args.self.now.entries =
    c.self.invariant.2.dates ∙ ap (λ (s : State). cycles_of s.config s.entries) c.self.view_is in
    let ended : date ≡ get_or (cycles_of c.args.self.now.config c.args.self.now.entries) c.args.place date =
    c.index-date.ensures ∙ ap (λ (l : List ℕ). get_or l c.args.place date) dates in
    ap (λ (n : ℕ). Some (record { date = date; seq = n })) (c.numbered.ensures ∙ c.count.ensures)
    ∙ sym (end_at c.args.self.now.config c.args.self.now.entries c.args.dest c.args.place c.requires.0 c.requires.1 date date lawful c.requires.2
    (sym c.serves.ensures ∙ c.if-not-serves.false) ended)
