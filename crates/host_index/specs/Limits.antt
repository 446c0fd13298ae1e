-- Where a count of an endpoint's outputs ends.
use Rattle.std.specs.Prelude.{ℕ, Bool, true, not, nat_lt, nat_le, List, length, filter}
use Rattle.faim_base.specs.declared.ids.OutPos.{OutPos}
use Rattle.faim_base.specs.Ids.{is_up_to}
use Rattle.host_index.specs.declared.limits.Limit.{Limit}
use Rattle.host_index.specs.declared.limits.Limit.TheVariants.{Position, Date, EndOf, Never}
use Rattle.host_index.specs.Index.{Output, outputs_to}

-- the position stands before the limit
abbrev pub is_within : Limit → OutPos → Bool
is_within (Position p) at = not (is_up_to p at)
is_within (Date date) at = nat_lt at.date date
is_within (EndOf date) at = nat_le at.date date
is_within Never at = true

-- how many outputs of an endpoint stand before a limit
abbrev pub count_before : Limit → List ℕ → List Output → ℕ
count_before limit e outputs = length (filter (λ o. is_within limit o.at) (outputs_to e outputs))
