use Rattle.std.proofs.Common.{◌∙◌, Some, sym, true, false, arith}
use Rattle.faim_base.proofs.ReadLemmas.{read_omad_is}
use Rattle.faim_base.proofs.ids.Omad.read.Goals as goal

pub returns-then-not-is_application : goal.returns-then-not-is_application
returns-then-not-is_application c = read_omad_is c.args.text.now (Some c.in_ok-date.date) (Some c.in_ok-dest.dest) (Some c.in_ok-seq.seq) (Some c.in_ok-stamp.stamp) false (omega arith) (sym c.in_ok-date.ensures.ok_part ∙ c.date_in.ensures) (sym c.in_ok-dest.ensures.ok_part ∙ c.endpoint_in.ensures) (sym c.in_ok-seq.ensures.ok_part ∙ c.seq_in.ensures) (sym c.in_ok-stamp.ensures.ok_part ∙ c.stamp_in.ensures) (sym c.if-not-is_application.true ∙ c.is_application.ensures)

pub returns : goal.returns
returns c = read_omad_is c.args.text.now (Some c.in_ok-date.date) (Some c.in_ok-dest.dest) (Some c.in_ok-seq.seq) (Some c.in_ok-stamp.stamp) true (omega arith) (sym c.in_ok-date.ensures.ok_part ∙ c.date_in.ensures) (sym c.in_ok-dest.ensures.ok_part ∙ c.endpoint_in.ensures) (sym c.in_ok-seq.ensures.ok_part ∙ c.seq_in.ensures) (sym c.in_ok-stamp.ensures.ok_part ∙ c.stamp_in.ensures) (sym c.if-not-is_application.false ∙ c.is_application.ensures)
