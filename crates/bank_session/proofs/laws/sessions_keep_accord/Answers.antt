use Rattle.bank_session.proofs.KeptAccord.{accord_at, accord_kept}
use Rattle.bank_session.proofs.laws.sessions_keep_accord.Goals as goal

pub returns-clause-moments : goal.returns-clause-moments
returns-clause-moments c = accord_at c.steps_keep_accord.ensures c.images_stand_for_one_list.ensures.lawful c.images_stand_for_one_list.ensures.once

pub returns-clause-inputs : goal.returns-clause-inputs
returns-clause-inputs c = accord_kept c.steps_keep_accord.ensures c.images_stand_for_one_list.ensures.lawful c.images_stand_for_one_list.ensures.once
