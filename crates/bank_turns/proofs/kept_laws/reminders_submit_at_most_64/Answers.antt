use Rattle.bank_turns.proofs.Counts.{reminded_count, reminded_frames}
use Rattle.bank_turns.proofs.kept_laws.reminders_submit_at_most_64.Goals as goal

pub returns-clause-told : goal.returns-clause-told
returns-clause-told c = reminded_count

pub returns-clause-sent : goal.returns-clause-sent
returns-clause-sent c = reminded_frames
