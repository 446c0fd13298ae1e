use Rattle.std.proofs.Common.{false, nat_lt, Option, List, ℕ, ◌∙◌, ap}
use Rattle.std.specs.Option.{option_map_or}
use Rattle.host_index.specs.declared.keys.Sent.{Sent}
use Rattle.host_index.specs.Limits.{is_within, count_before}
use Rattle.host_index.specs.Tables.{outputs_in}
use Rattle.host_index.proofs.Counted.{reaches_count}
use Rattle.host_index.proofs.bisection.reaches.Goals as goal

pub returns-in-Some : goal.returns-in-Some
returns-in-Some c =
    c.is_within.ensures
    ∙ ap (λ (o : Option Sent). option_map_or (λ (t : Sent). is_within c.args.limit.now t.at) o false) c.in-Some.ensures.value
    ∙ reaches_count c.args.outputs.now.entries c.numbered.result c.args.limit.now c.requires
    ∙ ap (λ (n : ℕ). nat_lt n (count_before c.args.limit.now c.numbered.result.dest (outputs_in c.args.outputs.now.entries))) c.numbered.ensures.number
    ∙ ap (λ (d : List ℕ). nat_lt c.args.number (count_before c.args.limit.now d (outputs_in c.args.outputs.now.entries))) c.numbered.ensures.dest

pub returns-in-None : goal.returns-in-None
returns-in-None c =
    ap (λ (o : Option Sent). option_map_or (λ (t : Sent). is_within c.args.limit.now t.at) o false) c.in-None.ensures.value
    ∙ reaches_count c.args.outputs.now.entries c.numbered.result c.args.limit.now c.requires
    ∙ ap (λ (n : ℕ). nat_lt n (count_before c.args.limit.now c.numbered.result.dest (outputs_in c.args.outputs.now.entries))) c.numbered.ensures.number
    ∙ ap (λ (d : List ℕ). nat_lt c.args.number (count_before c.args.limit.now d (outputs_in c.args.outputs.now.entries))) c.numbered.ensures.dest
