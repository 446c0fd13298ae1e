use Rattle.faim_edits.proofs.Failed.{in_range, first_failed_is, none_fails, fails_alone, unknown_permits_none}
use Rattle.faim_edits.proofs.laws.each_edit_can_fail.Goals as goal

pub returns-clause-range : goal.returns-clause-range
returns-clause-range c env n m found = in_range env n m found

pub returns-clause-first : goal.returns-clause-first
returns-clause-first c env m = first_failed_is env m

pub returns-clause-none : goal.returns-clause-none
returns-clause-none c env is = none_fails env is

pub returns-clause-alone : goal.returns-clause-alone
returns-clause-alone c env n is low high = fails_alone env n is low high

pub returns-clause-code : goal.returns-clause-code
returns-clause-code c env m e = unknown_permits_none env m e
