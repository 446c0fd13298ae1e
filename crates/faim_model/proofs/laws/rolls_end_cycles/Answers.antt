use Rattle.std.proofs.Common.{Bool, ◌+◌, ◌++◌, length, ap}
use Rattle.host_ledger.specs.declared.entries.Entry.TheVariants.{Roll}
use Rattle.host_ledger.specs.Sums.{cycle}
use Rattle.faim_model.specs.Outputs.{Item, one_if, outputs, sent_in_cycle}
use Rattle.host_ledger.proofs.Balances.{roll_leaves}
use Rattle.faim_model.proofs.laws.rolls_end_cycles.Goals as goal

pub returns-clause-later : goal.returns-clause-later
returns-clause-later c config older moment date lawful = lawful.0.later

pub returns-clause-follows : goal.returns-clause-follows
returns-clause-follows c config older moment date in_time later day = record { in_time = in_time; later = later; day = day }

pub returns-clause-output : goal.returns-clause-output
returns-clause-output c config older moment date e served =
    let item : Item = record {
      at = record { date = cycle config older; seq = sent_in_cycle config older e + 1 };
      place = length older;
      entry = Roll moment date;
    } in
    ap (λ (b : Bool). outputs config older e ++ one_if b item) served

pub returns-clause-balance : goal.returns-clause-balance
returns-clause-balance c = roll_leaves
