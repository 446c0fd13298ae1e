use Rattle.std.proofs.Common.{◌∙◌, ap, sym, subst, ℕ, reverse, length}
use Rattle.std.specs.Option.{option_to_list}
use Rattle.host_ledger.specs.declared.entries.Entry.TheVariants.{Posted}
use Rattle.host_index.specs.Index as indexed
use Rattle.host_index.specs.Index.{Index, are_above}
use Rattle.faim_model.specs.Lawful.{PostFollows}
use Rattle.host_core.specs.Kept.{given_in}
use Rattle.host_core.specs.State.{State}
use Rattle.host_core.proofs.Given.{may_be_given}
use Rattle.host_core.proofs.Known.{is_new}
use Rattle.host_core.proofs.state.HostState.post.Goals as goal

pub add_posted-requires-clause-absent : goal.add_posted-requires-clause-absent
add_posted-requires-clause-absent c =
    let follows : PostFollows c.self.inside.config (reverse c.self.inside.entries.items) c.args.head c.args.body c.args.resent c.args.moment c.args.verdict =
    subst (λ (s : State). PostFollows s.config s.entries c.args.head c.args.body c.args.resent c.args.moment c.args.verdict) (sym c.self.view_is) c.requires in
    ap (λ (i : Index). indexed.place_of c.args.head.imad i.posted) c.self.invariant.2.places
    ∙ is_new c.self.inside.config c.args.head c.args.body c.args.resent c.args.moment c.args.verdict (reverse c.self.inside.entries.items) (follows, c.self.invariant.1)

pub add_posted-requires-clause-above : goal.add_posted-requires-clause-above
add_posted-requires-clause-above c =
    let older = reverse c.self.inside.entries.items in
    let follows : PostFollows c.self.inside.config older c.args.head c.args.body c.args.resent c.args.moment c.args.verdict =
    subst (λ (s : State). PostFollows s.config s.entries c.args.head c.args.body c.args.resent c.args.moment c.args.verdict) (sym c.self.view_is) c.requires in
    ap (λ (i : Index). are_above c.len-place.result (option_to_list c.output_by.result) i.outputs) c.self.invariant.2.places
    ∙ ap (λ (n : ℕ). are_above n (option_to_list c.output_by.result) (given_in c.self.inside.config older)) (c.len-place.ensures ∙ ap (λ (s : State). length s.entries) (sym c.self.view_is))
    ∙ ap (λ to. are_above (length older) (option_to_list to) (given_in c.self.inside.config older)) c.output_by.ensures
    ∙ may_be_given c.self.inside.config (Posted c.args.head c.args.body c.args.resent c.args.moment c.args.verdict) older (follows, c.self.invariant.1)
