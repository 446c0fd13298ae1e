use Rattle.std.proofs.Common.{◌≡◌, ◌≤◌, arith, Result, Ok, Err}
use Rattle.std.specs.Result.{OnOk}
use Rattle.faim_base.specs.Numbers.{greatest_seq}
use Rattle.indexmap.specs.IndexMap.{insert_entry}
use Rattle.host_index.proofs.Found.{same_slot}
use Rattle.host_index.proofs.Counted.{put_to}
use Rattle.host_index.proofs.outputs.put.Goals as goal

at_ok : {A E : Type 0} (r : Result A E) (x : A) (P : Type 0) → r ≡ Ok x → OnOk r P → P
at_ok (Ok y) x P e p = p
at_ok (Err z) x P e p = absurd cc

pub returns-clause-numbered : goal.returns-clause-numbered
returns-clause-numbered c =
    let new : c.insert.new.self.entries ≡ insert_entry same_slot c.args.outputs.now.entries c.numbered.result (record { at = c.args.at; place = c.args.place }) = at_ok c.insert.result c.unwrap.result _ c.unwrap.ensures c.insert.ensures.entries in
    let range : c.args.at.seq ≤ greatest_seq = omega (arith, c.get.ensures.value, c.get.ensures.range.1) in
    (put_to c.args.outputs.now.entries c.insert.new.self.entries c.numbered.result (record { at = c.args.at; place = c.args.place }) c.args.dest.now c.count_before-number.result c.numbered.ensures.dest c.numbered.ensures.number
    c.requires.numbered c.count_before-number.ensures.count c.requires.above range new).numbered

pub returns-clause-outputs : goal.returns-clause-outputs
returns-clause-outputs c =
    let new : c.insert.new.self.entries ≡ insert_entry same_slot c.args.outputs.now.entries c.numbered.result (record { at = c.args.at; place = c.args.place }) = at_ok c.insert.result c.unwrap.result _ c.unwrap.ensures c.insert.ensures.entries in
    let range : c.args.at.seq ≤ greatest_seq = omega (arith, c.get.ensures.value, c.get.ensures.range.1) in
    (put_to c.args.outputs.now.entries c.insert.new.self.entries c.numbered.result (record { at = c.args.at; place = c.args.place }) c.args.dest.now c.count_before-number.result c.numbered.ensures.dest c.numbered.ensures.number
    c.requires.numbered c.count_before-number.ensures.count c.requires.above range new).outputs
