use Rattle.std.proofs.Common.{ap, Err}
use Rattle.faim_top.specs.declared.inits.NoOpening.{NoOpening}
use Rattle.faim_top.specs.Seen.{seen}
use Rattle.faim_top.proofs.InitAnswers.{made_known, refused_known}
use Rattle.faim_top.proofs.inits.init.Goals as goal

pub returns-in-Ok-clause-complete : goal.returns-in-Ok-clause-complete
returns-in-Ok-clause-complete g c = λ reads writes disk memory.
    made_known g.T.Opening.made (g.I.Source.left c.args.input.now) (g.S.Site.told c.args.site.now) (g.S.Site.told c.make_node.new.site) c.in-Ok.opening c.make_node.result
    c.in-Ok.ensures.opening.1 c.make_node.ensures.made (λ is. disk (c.make_node.ensures.disk_faults.failed is)) memory

pub returns-in-Err-Fault-clause-complete : goal.returns-in-Err-Fault-clause-complete
returns-in-Err-Fault-clause-complete g c = λ reads writes disk memory.
    refused_known g.T.Opening.made (g.I.Source.left c.args.input.now) (g.S.Site.told c.args.site.now) c.in-Err-Fault.fault (seen g.O.Sink.written c.args.out.now c.refuse.new.out) c.refuse.result
    (c.in-Err-Fault.ensures.fault c.in-Err-Fault.fault (ap (λ (e : NoOpening). Err e) c.in-Err-Fault.field-0-is)) c.refuse.ensures.refuses (λ is. writes (c.refuse.ensures.output_faults.failed is)) memory
