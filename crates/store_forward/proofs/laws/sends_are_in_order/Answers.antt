use Rattle.store_forward.proofs.FramesSent.{sends_sent, sends_okays, sends_read, sends_quiet, off_okays, off_sent}
use Rattle.store_forward.proofs.laws.sends_are_in_order.Goals as goal

pub returns-clause-frames : goal.returns-clause-frames
returns-clause-frames c = sends_sent

pub returns-clause-calls : goal.returns-clause-calls
returns-clause-calls c = sends_okays

pub returns-clause-image : goal.returns-clause-image
returns-clause-image c = sends_read

pub returns-clause-pending : goal.returns-clause-pending
returns-clause-pending c = sends_quiet

pub returns-clause-broken : goal.returns-clause-broken
returns-clause-broken c = λ frames acts log off. (off_okays frames acts off, off_sent frames acts off log)
