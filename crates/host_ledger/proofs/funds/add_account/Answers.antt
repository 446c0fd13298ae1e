use Rattle.std.proofs.Common.{◌≡◌, ◌∙◌, ap, refl, rules, ℕ, List, None, FitsSigned, of_z, to_z}
use Rattle.std.specs.Int.{w64, w128}
use Rattle.std.specs.Map.{lookup}
use Rattle.std.specs.Str.{bytes_eq}
use Rattle.std.proofs.lemmas.Int.{to_z-of_z}
use Rattle.indexmap.proofs.CallerLemmas.{insert_entry-new}
use Rattle.host_ledger.specs.declared.funds.Funds.{Funds}
use Rattle.host_ledger.proofs.Openings.{opened_last}
use Rattle.host_ledger.proofs.funds.add_account.Goals as goal

pub returns : goal.returns
returns c =
    let table = c.args.table.now in
    let account = c.args.account.now in
    let number = c.bytes.result in
    let none : lookup (bytes_eq number) table.entries ≡ None = ap (λ (n : List ℕ). lookup (bytes_eq n) table.entries) c.bytes.ensures.value ∙ c.requires in
    let funds : Funds = record { endpoint = account.endpoint; floor = to_z w64 (of_z w64 account.floor); balance = to_z w128 (of_z w128 c.from.result) } in
    let floor_fits : FitsSigned w64 account.floor = search rules in
    let opening_fits : FitsSigned w64 account.opening = search rules in
    let balance_fits : FitsSigned w128 c.from.result = search rules in
    opened_last table.entries c.insert.new.self.entries number funds account
    (c.in_ok-insert.ensures.entries ∙ insert_entry-new bytes_eq table number funds none) c.bytes.ensures.value
    (to_z-of_z w64 account.floor floor_fits) (to_z-of_z w128 c.from.result balance_fits ∙ c.from.ensures ∙ to_z-of_z w64 account.opening opening_fits) refl
