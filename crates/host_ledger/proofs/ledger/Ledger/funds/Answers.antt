use Rattle.std.proofs.Common.{◌∙◌}
use Rattle.host_ledger.proofs.Rows.{found_in}
use Rattle.host_ledger.proofs.ledger.Ledger.funds.Goals as goal

pub returns : goal.returns
returns c config es stands =
    c.funds_of.ensures ∙ found_in config es c.args.aba.now config.accounts c.self.inside.table.entries (c.self.view_is ∙ stands.accounts)
