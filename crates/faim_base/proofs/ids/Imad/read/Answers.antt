use Rattle.std.proofs.Common.{◌≡◌, ◌∙◌, Some, None, Err, sym, arith, rules}
use Rattle.faim_base.specs.declared.ids.IdFault.TheVariants.{BadSeq}
use Rattle.faim_base.proofs.ReadLemmas.{read_imad_is}
use Rattle.faim_base.proofs.ids.Imad.read.Goals as goal

pub returns-in_err-seq : goal.returns-in_err-seq
returns-in_err-seq c =
    let fault : c.from_residual-in_err-seq.result ≡ Err BadSeq = search rules in
    fault ∙ read_imad_is c.args.text.now (Some c.in_ok-date.date) (Some c.in_ok-source.source) None (omega arith) (sym c.in_ok-date.ensures.ok_part ∙ c.date_in.ensures) (sym c.in_ok-source.ensures.ok_part ∙ c.endpoint_in.ensures) (sym c.in_err-seq.ensures.ok_part ∙ c.seq_in.ensures)

pub returns : goal.returns
returns c = read_imad_is c.args.text.now (Some c.in_ok-date.date) (Some c.in_ok-source.source) (Some c.in_ok-seq.seq) (omega arith) (sym c.in_ok-date.ensures.ok_part ∙ c.date_in.ensures) (sym c.in_ok-source.ensures.ok_part ∙ c.endpoint_in.ensures) (sym c.in_ok-seq.ensures.ok_part ∙ c.seq_in.ensures)
