use Rattle.host_batches.proofs.Joining.{all_sound, entries_on, few_recent, frames_on}
use Rattle.host_batches.proofs.laws.sessions_over_groups.Goals as goal

pub returns-clause-entries : goal.returns-clause-entries
returns-clause-entries c = entries_on

pub returns-clause-frames : goal.returns-clause-frames
returns-clause-frames c = frames_on

pub returns-clause-sound : goal.returns-clause-sound
returns-clause-sound c = all_sound

pub returns-clause-recent : goal.returns-clause-recent
returns-clause-recent c = few_recent
