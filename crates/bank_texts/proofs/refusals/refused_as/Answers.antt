use Rattle.std.proofs.Common.{◌∙◌, sym}
use Rattle.bank_texts.proofs.CodeLemmas.{none_refused, refused_by}
use Rattle.bank_texts.proofs.refusals.refused_as.Goals as goal

pub returns-in-Some : goal.returns-in-Some
returns-in-Some c =
    c.recorded.ensures ∙ sym (refused_by c.args.code.now c.in-Some.reject c.in-Some.ensures.named c.in-Some.ensures.small)

pub returns-in-None : goal.returns-in-None
returns-in-None c = sym (none_refused c.args.code.now (λ r kept same. c.reject_in.ensures.none c.in-None.is r same))
