use Rattle.site_core.proofs.Reasons.{when_stopped, when_stops, when_lacks, when_unarmed, when_none}
use Rattle.site_core.proofs.laws.one_reason.Goals as goal

pub returns-clause-stopped : goal.returns-clause-stopped
returns-clause-stopped c = when_stopped

pub returns-clause-stops : goal.returns-clause-stops
returns-clause-stops c = when_stops

pub returns-clause-lacks : goal.returns-clause-lacks
returns-clause-lacks c = when_lacks

pub returns-clause-unarmed : goal.returns-clause-unarmed
returns-clause-unarmed c = when_unarmed

pub returns-clause-neither : goal.returns-clause-neither
returns-clause-neither c = when_none
