use Rattle.std.proofs.Common.{◌∙◌, ap, List, ℕ}
use Rattle.host_ledger.specs.Tables.{added, rows_in}
use Rattle.host_ledger.proofs.Openings.{more, set_rows, left_rows}
use Rattle.host_ledger.proofs.funds.add_cents.Goals as goal

pub returns-in-Some : goal.returns-in-Some
returns-in-Some c =
    let table = c.args.table.now.entries in
    let written = (c.get_mut.follows.holds (more c.args.cents c.in-Some.funds.now)).0 in
    ap rows_in written
    ∙ set_rows c.bytes.result c.args.cents table c.in-Some.funds.now c.in-Some.ensures.value
    ∙ ap (λ (n : List ℕ). added n c.args.cents (rows_in table)) c.bytes.ensures.value

pub returns-in-None : goal.returns-in-None
returns-in-None c =
    let table = c.args.table.now.entries in
    ap (λ (m : _). rows_in m.entries) c.get_mut.follows.holds-at-none
    ∙ left_rows c.bytes.result c.args.cents table c.in-None.ensures.value
    ∙ ap (λ (n : List ℕ). added n c.args.cents (rows_in table)) c.bytes.ensures.value
