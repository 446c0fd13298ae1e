use Rattle.host_index.proofs.Answering.{own_place, other_place}
use Rattle.host_index.proofs.laws.imads_keep_their_places.Goals as goal

pub returns-clause-own : goal.returns-clause-own
returns-clause-own c i imad to place none = own_place imad i.posted place none

pub returns-clause-others : goal.returns-clause-others
returns-clause-others c i imad other to place apart = other_place other imad i.posted place apart
