use Rattle.journaled_list.proofs.ListsOfPayloads.{stand-push, next_group, first_opening}
use Rattle.journaled_list.proofs.laws.payloads_go_on.Goals as goal

pub returns-clause-by_group : goal.returns-clause-by_group
returns-clause-by_group g c = λ payloads payload list r group stand is. stand-push g.L.Journaled.rules payloads list r group payload stand is

pub returns-clause-only : goal.returns-clause-only
returns-clause-only g c = λ payloads payload list r stand come. next_group g.L.Journaled.rules (g.met.L.Journaled.read_once) payloads list r payload stand come

pub returns-clause-opening : goal.returns-clause-opening
returns-clause-opening g c = first_opening g.L.Journaled.rules
