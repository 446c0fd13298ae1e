use Rattle.std.proofs.Common.{◌∙◌, refl, sym}
use Rattle.host_ledger.specs.Accounts.{account_of}
use Rattle.host_ledger.proofs.Found.{floor_kept}
use Rattle.host_ledger.proofs.ledger.Ledger.covers.Goals as goal

pub returns-in-Some : goal.returns-in-Some
returns-in-Some c config es stands known =
    floor_kept config es c.args.head.now (account_of config c.args.head.now.sender) refl c.in-Some.funds c.get.result c.keeps_floor.result
    (c.in-Some.ensures config es stands) c.get.ensures.value (sym c.moves_money.ensures ∙ c.if-not-moves_money.false) c.keeps_floor.ensures
