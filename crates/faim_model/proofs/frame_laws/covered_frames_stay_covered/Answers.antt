use Rattle.faim_model.proofs.Covering.{covered_by_longer}
use Rattle.faim_model.proofs.frame_laws.covered_frames_stay_covered.Goals as goal

pub returns : goal.returns
returns c = covered_by_longer
