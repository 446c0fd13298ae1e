use Rattle.journaled_list.proofs.Visiting.{taken_group, refused_group, taken_first}
use Rattle.journaled_list.proofs.reading.LoadingVisit.take.Goals as goal

pub returns-in-Ok : goal.returns-in-Ok
returns-in-Ok g c =
    taken_group g.L.Journaled.rules g.L.Journaled.list c.args.self.now.list c.in-Some.list c.add_group.new.list c.args.self.now.last c.in-Ok.count c.args.payload.now c.in-Some.is c.in-Ok.ensures

pub returns-in-Err-Bad : goal.returns-in-Err-Bad
returns-in-Err-Bad g c =
    refused_group g.L.Journaled.rules g.L.Journaled.list (g.met.L.Journaled.read_once) c.args.self.now.list c.in-Some.list _ c.args.self.now.last _ c.args.payload.now c.in-Err-Bad.field-0 c.in-Err-Bad.field-0-is c.in-Some.is c.in-Err-Bad.ensures

pub returns-in-Ok-open : goal.returns-in-Ok-open
returns-in-Ok-open g c =
    taken_first g.L.Journaled.rules g.L.Journaled.list c.args.self.now.list c.in-Ok-open.list c.args.self.now.last c.args.payload.now c.in-None.is c.in-Ok-open.ensures
