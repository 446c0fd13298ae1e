use Rattle.host_index.proofs.Apart.{each_above}
use Rattle.host_index.proofs.laws.rolls_over_distinct_endpoints.Goals as goal

pub returns : goal.returns
returns c outputs ends place distinct = each_above ends outputs place distinct
