use Rattle.std.proofs.Common.{◌∙◌, ap, sym, rules, FitsSigned, Some, ℤ, refl}
use Rattle.std.specs.Int.{w128}
use Rattle.std.proofs.lemmas.Int.{to_z-of_z}
use Rattle.host_ledger.specs.Accounts.{account_of}
use Rattle.host_ledger.proofs.Found.{balance_found}
use Rattle.host_ledger.proofs.ledger.Ledger.balance.Goals as goal

pub returns : goal.returns
returns c config es stands =
    let fits : FitsSigned w128 c.in_ok-funds.funds.balance = search rules in
    ap (λ (z : ℤ). Some z) (to_z-of_z w128 c.in_ok-funds.funds.balance fits)
    ∙ balance_found config es c.args.aba.now (account_of config c.args.aba.now) refl c.in_ok-funds.funds (sym c.in_ok-funds.was ∙ c.funds.ensures config es stands)
