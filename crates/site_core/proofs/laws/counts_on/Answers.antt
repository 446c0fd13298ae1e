use Rattle.site_core.specs.Told.{Counted}
use Rattle.site_core.proofs.Runs.{goes_on, counted_same, counted_on, reason_before, reason_after, because_on, reason_one}
use Rattle.site_core.proofs.laws.counts_on.Goals as goal

pub returns-clause-same : goal.returns-clause-same
returns-clause-same c = counted_same

pub returns-clause-counted : goal.returns-clause-counted
returns-clause-counted c = counted_on

pub returns-clause-before : goal.returns-clause-before
returns-clause-before c = reason_before

pub returns-clause-after : goal.returns-clause-after
returns-clause-after c = reason_after

pub returns-clause-because : goal.returns-clause-because
returns-clause-because c = because_on

pub returns-clause-told : goal.returns-clause-told
returns-clause-told _ = λ a b c. goes_on Counted Counted Counted a b c counted_on

pub returns-clause-one : goal.returns-clause-one
returns-clause-one c = reason_one
