use Rattle.std.proofs.Common.{◌≡◌, ◌∙◌, ap, sym, subst, arith, ℕ, ◌+◌, ◌^◌, ◌<◌, List, ◌∷◌, length, reverse, take, Option}
use Rattle.std.proofs.lemmas.List.{length-reverse}
use Rattle.host_ledger.specs.declared.entries.Entry.{Entry}
use Rattle.host_ledger.specs.declared.entries.Entry.TheVariants.{Posted, Roll}
use Rattle.host_index.specs.Index.{EndsInRoll, before_posting, before_roll}
use Rattle.faim_model.specs.Lawful.{Lawful}
use Rattle.host_core.specs.Kept.{Kept}
use Rattle.host_core.proofs.Holding.{ends_last, message_back, newest_taken, roll_less}
use Rattle.host_core.proofs.state.HostState.take_back.Goals as goal

pub invariant_of-self : goal.invariant_of-self
invariant_of-self c =
    let config = c.self.inside.config in
    let left = reverse c.pop.new.self.items in
    let is : reverse c.self.inside.entries.items ≡ Posted c.in-Posted.head c.in-Posted.body c.in-Posted.resent c.in-Posted.moment c.in-Posted.verdict ∷ left =
    newest_taken c.self.inside.entries.items c.pop.new.self.items c.pop.result c.unwrap-entry.result c.pop.ensures.items c.unwrap-entry.ensures
    ∙ ap (λ (x : Entry). x ∷ left) c.in-Posted.is in
    let kept = subst (λ (es : List Entry). Kept config es c.self.inside.ledger c.self.inside.index c.self.inside.cycles.items c.self.inside.endpoints) is c.self.invariant.2 in
    let lawful = subst (Lawful config) is c.self.invariant.1 in
    let long : length c.as_slice.result.now ≡ length left = ap length c.as_slice.ensures.value ∙ sym (length-reverse c.pop.new.self.items) in
    let few : length left < 2 ^ 64 = omega (arith, long, c.as_slice.type_inv.0) in
    let stands = c.undo.ensures config left c.in-Posted.body c.in-Posted.resent c.in-Posted.moment c.self.invariant.0 few kept.balances in
    let back = message_back config left c.in-Posted.head c.in-Posted.body c.in-Posted.resent c.in-Posted.moment c.in-Posted.verdict
    c.self.inside.ledger c.undo.new.self c.self.inside.index c.self.inside.cycles.items c.self.inside.endpoints kept stands in (
      c.self.invariant.0,
      lawful.1,
      record {
        balances = stands;
        places = c.drop_posted.ensures ∙ ap (λ (dest : Option (List ℕ)). before_posting dest c.self.inside.index) c.dest_by.ensures ∙ back.places;
        dates = c.truncate.ensures.items ∙ ap (λ (n : ℕ). take (n + 1) c.self.inside.cycles.items) long ∙ back.dates;
        banks = kept.banks;
      },
    )

pub drop_roll-requires : goal.drop_roll-requires
drop_roll-requires c =
    let config = c.self.inside.config in
    let left = reverse c.pop.new.self.items in
    let is : reverse c.self.inside.entries.items ≡ Roll c.in-Roll.moment c.in-Roll.date ∷ left =
    newest_taken c.self.inside.entries.items c.pop.new.self.items c.pop.result c.unwrap-entry.result c.pop.ensures.items c.unwrap-entry.ensures
    ∙ ap (λ (x : Entry). x ∷ left) c.in-Roll.is in
    let kept = subst (λ (es : List Entry). Kept config es c.self.inside.ledger c.self.inside.index c.self.inside.cycles.items c.self.inside.endpoints) is c.self.invariant.2 in
    subst (λ (dests : List (List ℕ)). EndsInRoll dests c.self.inside.index) (sym c.as_slice-in-Roll.ensures)
    (ends_last config left c.in-Roll.moment c.in-Roll.date c.self.inside.ledger c.self.inside.index c.self.inside.cycles.items c.self.inside.endpoints kept)

pub invariant_of-self-in-Roll : goal.invariant_of-self-in-Roll
invariant_of-self-in-Roll c =
    let config = c.self.inside.config in
    let left = reverse c.pop.new.self.items in
    let is : reverse c.self.inside.entries.items ≡ Roll c.in-Roll.moment c.in-Roll.date ∷ left =
    newest_taken c.self.inside.entries.items c.pop.new.self.items c.pop.result c.unwrap-entry.result c.pop.ensures.items c.unwrap-entry.ensures
    ∙ ap (λ (x : Entry). x ∷ left) c.in-Roll.is in
    let kept = subst (λ (es : List Entry). Kept config es c.self.inside.ledger c.self.inside.index c.self.inside.cycles.items c.self.inside.endpoints) is c.self.invariant.2 in
    let lawful = subst (Lawful config) is c.self.invariant.1 in
    let long : length c.as_slice.result.now ≡ length left = ap length c.as_slice.ensures.value ∙ sym (length-reverse c.pop.new.self.items) in
    let back = roll_less config left c.in-Roll.moment c.in-Roll.date c.self.inside.ledger c.self.inside.index c.self.inside.cycles.items c.self.inside.endpoints kept in (
      c.self.invariant.0,
      lawful.1,
      record {
        balances = back.balances;
        places = c.drop_roll.ensures ∙ ap (λ (dests : List (List ℕ)). before_roll dests c.self.inside.index) c.as_slice-in-Roll.ensures ∙ back.places;
        dates = c.truncate.ensures.items ∙ ap (λ (n : ℕ). take (n + 1) c.self.inside.cycles.items) long ∙ back.dates;
        banks = kept.banks;
      },
    )
