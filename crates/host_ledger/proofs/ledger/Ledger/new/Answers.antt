use Rattle.std.proofs.Common.{◌∙◌, ap, map}
use Rattle.host_ledger.specs.Tables.{opened, rows_in}
use Rattle.host_ledger.proofs.Openings.{stands_opened}
use Rattle.host_ledger.proofs.ledger.Ledger.new.Goals as goal

pub returns : goal.returns
returns c = stands_opened (rows_in c.in_ok-table.table.entries) c.args.config.now c.requires (c.in_ok-table.ensures ∙ ap (map opened) c.as_slice.ensures)
