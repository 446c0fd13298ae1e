-- No end of a bank's session speaks of a clock.
use Rattle.std.proofs.Common.{◌≢◌}
use Rattle.journaled_list.specs.declared.faults.OpenFault.{OpenFault}
use Rattle.journaled_list.specs.declared.faults.OpenFault.TheVariants as opens
use Rattle.framed_input.specs.declared.ends.InputEnd.{InputEnd}
use Rattle.framed_input.specs.declared.ends.InputEnd.TheVariants as inputs
use Rattle.journaled_steps.specs.declared.faults.StepFault.{StepFault}
use Rattle.journaled_steps.specs.declared.faults.StepFault.TheVariants as steps
use Rattle.line_sessions.specs.declared.ends.SessionEnd.TheVariants.{ClockFault}
use Rattle.node_session.specs.Ends.{input_end, open_end, step_end}

pub open_timeless : (fault : OpenFault) → open_end fault ≢ ClockFault
open_timeless opens.SiteFault e = absurd cc
open_timeless opens.LineFault e = absurd cc
open_timeless opens.NoHeader e = absurd cc
open_timeless (opens.Damaged place) e = absurd cc
open_timeless opens.NoMemory e = absurd cc

pub input_timeless : (end : InputEnd) → input_end end ≢ ClockFault
input_timeless inputs.ReadFault e = absurd cc
input_timeless (inputs.Frame fault) e = absurd cc
input_timeless inputs.TooLong e = absurd cc

pub step_timeless : (fault : StepFault) → step_end fault ≢ ClockFault
step_timeless steps.SiteFault e = absurd cc
step_timeless steps.LineFault e = absurd cc
step_timeless (steps.JournalFull tail need) e = absurd cc
step_timeless steps.NoMemory e = absurd cc
