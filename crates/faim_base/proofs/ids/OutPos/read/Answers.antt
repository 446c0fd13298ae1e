use Rattle.std.proofs.Common.{◌∙◌, Some, None, arith}
use Rattle.faim_base.proofs.ReadLemmas.{read_position_is}
use Rattle.faim_base.proofs.ids.OutPos.read.Goals as goal

pub returns-in_err-seq : goal.returns-in_err-seq
returns-in_err-seq c = c.from_residual-in_err-seq.ensures ∙ read_position_is c.args.text.now (Some c.in_ok-date.date) None (omega arith) c.in_ok-date.ensures c.in_err-seq.ensures

pub returns : goal.returns
returns c = read_position_is c.args.text.now (Some c.in_ok-date.date) (Some c.in_ok-seq.seq) (omega arith) c.in_ok-date.ensures c.in_ok-seq.ensures
