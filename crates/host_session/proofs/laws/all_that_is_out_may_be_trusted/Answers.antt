use Rattle.host_session.proofs.TrustedOut.{host_stands, trusted_out}
use Rattle.host_session.proofs.laws.all_that_is_out_may_be_trusted.Goals as goal

pub returns-clause-host : goal.returns-clause-host
returns-clause-host c = host_stands c.images_stand_for_one_list.ensures.lawful

pub returns-clause-trusted : goal.returns-clause-trusted
returns-clause-trusted c = trusted_out c.images_stand_for_one_list.ensures.lawful
