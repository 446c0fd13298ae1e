use Rattle.std.proofs.Common.{◌≡◌, ◌∙◌, ap, sym, subst, arith, Bool, true, false, length, ◌<◌, reverse, Some, None, if◌then◌else◌}
use Rattle.std.specs.Option.{option_map_or}
use Rattle.faim_model.specs.declared.decisions.Decision.TheVariants.{Known, Differs}
use Rattle.faim_model.specs.Verdicts.{has_body, has_imad, place_of}
use Rattle.host_core.specs.State.{State}
use Rattle.host_core.proofs.Known.{found_inside, known_in, told}
use Rattle.host_core.proofs.state.HostState.known.Goals as goal

pub index-requires : goal.index-requires
index-requires c =
    let found : place_of (has_imad c.args.imad.now) (reverse c.self.inside.entries.items) ≡ Some c.args.place =
    subst (λ (s : State). place_of (has_imad c.args.imad.now) s.entries ≡ Some c.args.place) (sym c.self.view_is) c.requires in
    let inside : c.args.place < length c.self.inside.entries.items = found_inside c.self.inside.entries.items c.args.imad.now c.args.place found in
    omega (arith, inside, c.self.inside.entries.ok)

pub returns-then-posts_body : goal.returns-then-posts_body
returns-then-posts_body c =
    let found : place_of (has_imad c.args.imad.now) (reverse c.self.inside.entries.items) ≡ Some c.args.place =
    subst (λ (s : State). place_of (has_imad c.args.imad.now) s.entries ≡ Some c.args.place) (sym c.self.view_is) c.requires in
    told true c.args.place (place_of (has_body c.args.imad.now c.args.body.now) (reverse c.self.inside.entries.items))
    (known_in c.self.inside.config c.self.inside.entries.items c.args.imad.now c.args.body.now c.args.place c.index.result.now c.self.invariant.1 found c.index.ensures
    ∙ ap (λ (b : Bool). if b then Some c.args.place else None) (sym c.posts_body.ensures ∙ c.if-posts_body.true))
    ∙ ap (λ (s : State). option_map_or Known (place_of (has_body c.args.imad.now c.args.body.now) s.entries) (Differs c.args.place)) c.self.view_is

pub returns-else-posts_body : goal.returns-else-posts_body
returns-else-posts_body c =
    let found : place_of (has_imad c.args.imad.now) (reverse c.self.inside.entries.items) ≡ Some c.args.place =
    subst (λ (s : State). place_of (has_imad c.args.imad.now) s.entries ≡ Some c.args.place) (sym c.self.view_is) c.requires in
    told false c.args.place (place_of (has_body c.args.imad.now c.args.body.now) (reverse c.self.inside.entries.items))
    (known_in c.self.inside.config c.self.inside.entries.items c.args.imad.now c.args.body.now c.args.place c.index.result.now c.self.invariant.1 found c.index.ensures
    ∙ ap (λ (b : Bool). if b then Some c.args.place else None) (sym c.posts_body.ensures ∙ c.if-posts_body.false))
    ∙ ap (λ (s : State). option_map_or Known (place_of (has_body c.args.imad.now c.args.body.now) s.entries) (Differs c.args.place)) c.self.view_is
