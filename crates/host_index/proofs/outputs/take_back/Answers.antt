use Rattle.std.proofs.Common.{◌≡◌, ◌-◌, ℕ, List, [], length, take, ◌∙◌, ap, sym, subst, arith}
use Rattle.std.proofs.lemmas.List.{length-map}
use Rattle.host_index.specs.declared.keys.Slot.{Slot}
use Rattle.host_index.specs.declared.keys.Sent.{Sent}
use Rattle.host_index.specs.Tables.{AreNext, outputs_in, output_of}
use Rattle.host_index.proofs.Found.{first_next, first_outputs}
use Rattle.host_index.proofs.outputs.take_back.Goals as goal

pub returns-clause-numbered : goal.returns-clause-numbered
returns-clause-numbered c =
    subst (λ (l : List (Slot × Sent)). AreNext [] l) (sym c.truncate.ensures.entries) (first_next c.saturating_sub-left.result [] c.args.outputs.now.entries c.requires)

pub returns-clause-outputs : goal.returns-clause-outputs
returns-clause-outputs c =
    let es = c.args.outputs.now.entries in
    let same = length-map es output_of in
    let left : c.saturating_sub-left.result ≡ length (outputs_in es) - c.args.count = omega (arith, same, c.saturating_sub-left.ensures, c.len.ensures.len) in
    ap outputs_in c.truncate.ensures.entries ∙ first_outputs c.saturating_sub-left.result es ∙ ap (λ (n : ℕ). take n (outputs_in es)) left
