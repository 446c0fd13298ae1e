use Rattle.faim_model.proofs.Refusing.{e001_where, e002_where, h102_where, x201_where}
use Rattle.faim_model.proofs.laws.refusals_tell_why.Goals as goal

pub returns-clause-e001 : goal.returns-clause-e001
returns-clause-e001 c = e001_where

pub returns-clause-e002 : goal.returns-clause-e002
returns-clause-e002 c = e002_where

pub returns-clause-h102 : goal.returns-clause-h102
returns-clause-h102 c = h102_where

pub returns-clause-x201 : goal.returns-clause-x201
returns-clause-x201 c = x201_where
