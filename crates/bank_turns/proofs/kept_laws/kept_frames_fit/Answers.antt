use Rattle.bank_turns.proofs.KeptSteps.{kept_fits}
use Rattle.bank_turns.proofs.kept_laws.kept_frames_fit.Goals as goal

pub returns : goal.returns
returns c = kept_fits
