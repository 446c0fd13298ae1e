use Rattle.std.proofs.Common.{◌≡◌, ◌∙◌, sym, ap, subst, ℕ, List, [], ◌∷◌, ◌++◌, reverse}
use Rattle.host_ledger.specs.declared.entries.Entry.{Entry}
use Rattle.host_ledger.specs.Accounts.{endpoints_of}
use Rattle.faim_model.specs.Lawful.{Lawful}
use Rattle.host_core.specs.Kept.{Kept}
use Rattle.host_core.proofs.state.HostState.new.Goals as goal

pub invariant_of-result : goal.invariant_of-result
invariant_of-result c =
    let none : reverse c.new-2.result.items ≡ [] = ap reverse c.new-2.ensures.items in
    let first : Kept c.args.config [] c.in_ok-ledger.ledger c.new-3.result c.push.new.self.items c.in_ok-endpoints.endpoints = record {
      balances = c.in_ok-ledger.ensures;
      places = c.new-3.ensures;
      dates = c.in_ok-push.ensures.items ∙ ap (λ (dates : List ℕ). dates ++ c.args.config.date ∷ []) c.new-cycles.ensures.items;
      banks = c.in_ok-endpoints.ensures ∙ ap endpoints_of c.as_slice.ensures;
    } in (
      c.requires,
      subst (Lawful c.args.config) (sym none) tt,
      subst (λ (es : List Entry). Kept c.args.config es c.in_ok-ledger.ledger c.new-3.result c.push.new.self.items c.in_ok-endpoints.endpoints) (sym none) first,
    )
