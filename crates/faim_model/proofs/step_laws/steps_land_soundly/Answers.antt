use Rattle.std.proofs.Common.{length, arith}
use Rattle.faim_model.proofs.Landings.{front_sent, in_order_where, kept_in_order, landed_covered, landed_lawful, lost, whole}
use Rattle.faim_model.proofs.step_laws.steps_land_soundly.Goals as goal

pub returns-clause-lawful : goal.returns-clause-lawful
returns-clause-lawful c config es before f reading kept n lawful = landed_lawful config es f reading kept lawful

pub returns-clause-covered : goal.returns-clause-covered
returns-clause-covered c config es before f reading kept n g sound now in_time = landed_covered config es f reading before kept n g sound now in_time

pub returns-clause-whole : goal.returns-clause-whole
returns-clause-whole c es before s = (kept_in_order s (length s.sends) (omega arith), whole es before s)

pub returns-clause-lost : goal.returns-clause-lost
returns-clause-lost c = lost

pub returns-clause-may : goal.returns-clause-may
returns-clause-may c = in_order_where

pub returns-clause-front : goal.returns-clause-front
returns-clause-front c es before s kept n in_order = front_sent es before s kept n in_order.few
