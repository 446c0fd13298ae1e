use Rattle.faim_stream.proofs.OneAnswer.{some_answer, one_answer, refusal_stays, cut_elsewhere}
use Rattle.faim_stream.proofs.laws.cuts_change_no_answer.Goals as goal

pub returns-clause-some : goal.returns-clause-some
returns-clause-some c form fed = some_answer form fed

pub returns-clause-one : goal.returns-clause-one
returns-clause-one c form fed a b h k = one_answer form fed a b h k

pub returns-clause-stays : goal.returns-clause-stays
returns-clause-stays c form fed more e h = refusal_stays form fed more e h

pub returns-clause-cuts : goal.returns-clause-cuts
returns-clause-cuts c form fed pieces others a b before earlier same h k = cut_elsewhere form fed pieces others a b before earlier same h k
