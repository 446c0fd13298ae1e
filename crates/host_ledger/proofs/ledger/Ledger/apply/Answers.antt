use Rattle.std.proofs.Common.{◌∙◌, sym}
use Rattle.host_ledger.specs.Tables.{rows_in}
use Rattle.host_ledger.proofs.Rows.{applied, kept}
use Rattle.host_ledger.proofs.ledger.Ledger.apply.Goals as goal

pub returns-then-moves : goal.returns-then-moves
returns-then-moves c config es body resent moment sound few stands =
    applied config es c.args.head.now body resent moment c.args.verdict.now
    (rows_in c.self.inside.table.entries) c.args.self.now (rows_in c.transfer.new.table.entries) c.get-amount.result
    sound few c.get-amount.ensures.range c.get-amount.ensures.value (sym c.moves.ensures ∙ c.if-moves.true) c.self.view_is c.transfer.ensures stands

pub returns-else-moves : goal.returns-else-moves
returns-else-moves c config es body resent moment sound few stands =
    kept config es c.args.head.now body resent moment c.args.verdict.now c.args.self.now c.get-amount.result
    c.get-amount.ensures.range c.get-amount.ensures.value (sym c.moves.ensures ∙ c.if-moves.false) stands
