use Rattle.std.proofs.Common.{◌≡◌, ◌-◌, ◌≤◌, true, List, ℕ, length, take, drop, sym, subst, ap, ◌∙◌, arith}
use Rattle.std.specs.Prelude.{◌==◌, filter, not}
use Rattle.std.specs.List.{list_all}
use Rattle.std.proofs.lemmas.List.{length-take-le, length-drop}
use Rattle.faim_base.specs.Tags.{is_tag_number}
use Rattle.faim_message.specs.Rising.{rising}
use Rattle.faim_message.proofs.RemainingLemmas.{list_all-filter, rising-filter, part_left}
use Rattle.faim_message.proofs.remaining.Remaining.take_away.Goals as goal

pub drop_number-requires : goal.drop_number-requires
drop_number-requires c = record { ordered = c.self.invariant.3 }

pub invariant_of-self : goal.invariant_of-self
invariant_of-self c =
    let m = c.self.inside in
    let inv = c.self.invariant in
    let old = take (m.end - m.start) (drop m.start m.numbers) in
    let new = c.drop_number.new.numbers in
    let long : length old ≡ m.end - m.start = length-take-le (m.end - m.start) (drop m.start m.numbers) (omega (arith, length-drop m.start m.numbers, c.self.told, inv.0, inv.1)) in
    let few : c.drop_number.result ≤ m.end - m.start = omega (arith, c.drop_number.ensures.few, long) in
    let left = part_left m.numbers new m.start m.end c.drop_number.result (omega (arith, c.self.told, inv.0, inv.1)) (c.drop_number.auto.numbers ∙ long) few ∙ c.drop_number.ensures.kept in
    let P : List ℕ → Type 0 = λ l. list_all is_tag_number l ≡ true in
    let Q : List ℕ → Type 0 = λ l. rising l ≡ true in (
      omega (arith, few, inv.0),
      inv.1,
      subst P (sym left) (list_all-filter (λ n. not (n == c.args.number)) is_tag_number old inv.2),
      subst Q (sym left) (rising-filter (λ n. not (n == c.args.number)) old inv.3),
    )

pub returns : goal.returns
returns c =
    let m = c.self.inside in
    let inv = c.self.invariant in
    let old = take (m.end - m.start) (drop m.start m.numbers) in
    let new = c.drop_number.new.numbers in
    let long : length old ≡ m.end - m.start = length-take-le (m.end - m.start) (drop m.start m.numbers) (omega (arith, length-drop m.start m.numbers, c.self.told, inv.0, inv.1)) in
    let few : c.drop_number.result ≤ m.end - m.start = omega (arith, c.drop_number.ensures.few, long) in
    part_left m.numbers new m.start m.end c.drop_number.result (omega (arith, c.self.told, inv.0, inv.1)) (c.drop_number.auto.numbers ∙ long) few ∙ c.drop_number.ensures.kept
    ∙ ap (filter (λ n. not (n == c.args.number))) c.self.view_is
