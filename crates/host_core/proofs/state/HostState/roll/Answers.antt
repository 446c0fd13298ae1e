use Rattle.std.proofs.Common.{rules, ◌≡◌, ◌∙◌, ap, sym, subst, ℕ, List, [], ◌∷◌, ◌++◌, length, reverse}
use Rattle.std.proofs.lemmas.List.{reverse-append}
use Rattle.faim_base.specs.declared.ids.OutPos.{OutPos}
use Rattle.host_ledger.specs.declared.entries.Entry.{Entry}
use Rattle.host_ledger.specs.declared.entries.Entry.TheVariants.{Roll}
use Rattle.host_index.specs.Index.{Index, after_roll, are_above}
use Rattle.faim_model.specs.Lawful.{Lawful, RollFollows}
use Rattle.host_core.specs.Kept.{Kept, ends_after, given_in}
use Rattle.host_core.specs.State.{State}
use Rattle.host_core.proofs.Given.{may_be_given}
use Rattle.host_core.proofs.Holding.{kept_roll}
use Rattle.host_core.proofs.state.HostState.roll.Goals as goal

pub add_roll-requires : goal.add_roll-requires
add_roll-requires c =
    let older = reverse c.self.inside.entries.items in
    let follows : RollFollows c.self.inside.config older c.args.moment c.args.date = subst (λ (s : State). RollFollows s.config s.entries c.args.moment c.args.date) (sym c.self.view_is) c.requires in
    let ends : c.as_slice.result.now ≡ ends_after c.self.inside.config older =
    c.as_slice.ensures.value ∙ c.in_ok-ends.ensures ∙ ap (λ (s : State). ends_after s.config s.entries) (sym c.self.view_is) in
    let place : c.len-place.result ≡ length older = c.len-place.ensures ∙ ap (λ (s : State). length s.entries) (sym c.self.view_is) in
    record {
      above = ap (λ (i : Index). are_above c.len-place.result c.as_slice.result.now i.outputs) c.self.invariant.2.places
          ∙ ap (λ (n : ℕ). are_above n c.as_slice.result.now (given_in c.self.inside.config older)) place
          ∙ ap (λ (l : List (List ℕ × OutPos)). are_above (length older) l (given_in c.self.inside.config older)) ends
          ∙ may_be_given c.self.inside.config (Roll c.args.moment c.args.date) older (follows, c.self.invariant.1);
    }

pub invariant_of-self-2 : goal.invariant_of-self-2
invariant_of-self-2 c =
    let config = c.self.inside.config in
    let older = reverse c.self.inside.entries.items in
    let roll : Entry = Roll c.args.moment c.args.date in
    let follows : RollFollows config older c.args.moment c.args.date = subst (λ (s : State). RollFollows s.config s.entries c.args.moment c.args.date) (sym c.self.view_is) c.requires in
    let ends : c.as_slice.result.now ≡ ends_after config older =
    c.as_slice.ensures.value ∙ c.in_ok-ends.ensures ∙ ap (λ (s : State). ends_after s.config s.entries) (sym c.self.view_is) in
    let place : c.len-place.result ≡ length older = c.len-place.ensures ∙ ap (λ (s : State). length s.entries) (sym c.self.view_is) in
    let more : c.push-2.new.self.items ≡ c.self.inside.entries.items ++ roll ∷ [] = search rules in
    let dates : c.push.new.self.items ≡ c.self.inside.cycles.items ++ c.args.date ∷ [] = search rules in
    let is : reverse c.push-2.new.self.items ≡ roll ∷ older = ap reverse more ∙ reverse-append c.self.inside.entries.items (roll ∷ []) in
    let kept = kept_roll config older c.args.moment c.args.date c.self.inside.ledger c.self.inside.index c.self.inside.cycles.items c.self.inside.endpoints c.self.invariant.2
    (c.rolls_leave_ledgers.ensures c.self.inside.ledger config older c.args.moment c.args.date c.self.invariant.2.balances) in (
      c.self.invariant.0,
      subst (Lawful config) (sym is) (follows, c.self.invariant.1),
      subst (λ (es : List Entry). Kept config es c.self.inside.ledger c.add_roll.new.self c.push.new.self.items c.self.inside.endpoints) (sym is) (record {
        balances = kept.balances;
        places = c.in_ok-add_roll.ensures.ok
            ∙ ap (λ (l : List (List ℕ × OutPos)). after_roll l c.len-place.result c.self.inside.index) ends
            ∙ ap (λ (n : ℕ). after_roll (ends_after config older) n c.self.inside.index) place
            ∙ kept.places;
        dates = dates ∙ kept.dates;
        banks = kept.banks;
      }),
    )
