use Rattle.faim_tags.proofs.Judgements.{one_reason, found_unrefused}
use Rattle.faim_tags.proofs.laws.one_refusal_in_front.Goals as goal

pub returns-clause-refusal : goal.returns-clause-refusal
returns-clause-refusal c numbers bytes a b h k = one_reason numbers bytes a b h k

pub returns-clause-found : goal.returns-clause-found
returns-clause-found c numbers bytes v n e f r = found_unrefused numbers bytes v n e f r
