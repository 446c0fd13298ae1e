use Rattle.faim_model.proofs.SendingLemmas.{resume_covered}
use Rattle.faim_model.proofs.Stepping.{step_covered}
use Rattle.faim_model.proofs.step_laws.sent_frames_are_covered.Goals as goal

pub returns-clause-step : goal.returns-clause-step
returns-clause-step c config es f reading g sound now before there = step_covered config es f reading g sound.endpoint now before there

pub returns-clause-resume : goal.returns-clause-resume
returns-clause-resume c = resume_covered
