use Rattle.faim_message.proofs.Reasons.{one_place, stop_stays, stop_front}
use Rattle.faim_message.proofs.laws.a_stop_stays.Goals as goal

pub returns-clause-one : goal.returns-clause-one
returns-clause-one c form bytes p q s t = one_place form bytes p q s t

pub returns-clause-stays : goal.returns-clause-stays
returns-clause-stays c form bytes more p s = stop_stays form bytes more p s

pub returns-clause-front : goal.returns-clause-front
returns-clause-front c form bytes more p s lt = stop_front form bytes more p s lt
