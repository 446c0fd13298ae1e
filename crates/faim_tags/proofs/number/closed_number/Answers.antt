use Rattle.std.proofs.Common.{◌≡◌, ℕ, List, true, take, sym, ap, ◌∙◌}
use Rattle.std.specs.List.{list_all}
use Rattle.faim_base.specs.Text.{is_digit}
use Rattle.faim_tags.proofs.RunLemmas.{closed_digits}
use Rattle.faim_tags.proofs.number.closed_number.Goals as goal

pub returns-then-bytes-eq125 : goal.returns-then-bytes-eq125
returns-then-bytes-eq125 c =
    let digits : list_all is_digit (take 4 c.args.bytes.now) ≡ true = ap (λ (t : List ℕ). list_all is_digit t) (sym c.before-2.ensures) ∙ sym c.are_digits.ensures ∙ c.if-are_digits.true in
    closed_digits c.args.bytes.now c.number_in.result c.requires digits c.if-bytes-eq125.true c.number_in.ensures
