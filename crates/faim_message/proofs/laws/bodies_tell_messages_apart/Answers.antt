use Rattle.faim_message.proofs.BodyTexts.{body_is, bodies_tell}
use Rattle.faim_message.proofs.laws.bodies_tell_messages_apart.Goals as goal

pub returns-clause-spelled : goal.returns-clause-spelled
returns-clause-spelled c m h e = body_is m h e

pub returns-clause-apart : goal.returns-clause-apart
returns-clause-apart c m w h k e f = bodies_tell m w h k e f
