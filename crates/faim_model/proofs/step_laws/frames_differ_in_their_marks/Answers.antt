use Rattle.faim_model.proofs.SendingLemmas.{entry_marked, frames_alike, marked_same}
use Rattle.faim_model.proofs.step_laws.frames_differ_in_their_marks.Goals as goal

pub returns-clause-mark : goal.returns-clause-mark
returns-clause-mark c = entry_marked

pub returns-clause-alike : goal.returns-clause-alike
returns-clause-alike c = frames_alike

pub returns-clause-one : goal.returns-clause-one
returns-clause-one c = marked_same
