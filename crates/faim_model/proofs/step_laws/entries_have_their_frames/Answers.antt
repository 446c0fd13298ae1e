use Rattle.faim_model.proofs.Exact.{refused_frames, roll_frames, taken_frames}
use Rattle.faim_model.proofs.step_laws.entries_have_their_frames.Goals as goal

pub returns-clause-taken : goal.returns-clause-taken
returns-clause-taken c config older h body resent moment dest seq mark follows = taken_frames config older mark h body resent moment dest seq follows

pub returns-clause-refused : goal.returns-clause-refused
returns-clause-refused c config older h body resent moment why mark = refused_frames config older mark h body resent moment why

pub returns-clause-roll : goal.returns-clause-roll
returns-clause-roll c config older moment date mark = roll_frames config older mark moment date
