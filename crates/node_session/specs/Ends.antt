-- How a session ends where one of its parts does.
use Rattle.journaled_list.specs.declared.faults.OpenFault.{OpenFault}
use Rattle.journaled_list.specs.declared.faults.OpenFault.TheVariants as opens
use Rattle.framed_input.specs.declared.ends.InputEnd.{InputEnd}
use Rattle.framed_input.specs.declared.ends.InputEnd.TheVariants as inputs
use Rattle.journaled_steps.specs.declared.faults.StepFault.{StepFault}
use Rattle.journaled_steps.specs.declared.faults.StepFault.TheVariants as steps
use Rattle.line_sessions.specs.declared.ends.SessionEnd.{SessionEnd}
use Rattle.line_sessions.specs.declared.ends.SessionEnd.TheVariants as ends

-- the node isn't resumed
abbrev pub open_end : OpenFault → SessionEnd
open_end opens.SiteFault = ends.DiskFault
open_end opens.LineFault = ends.LineFault
open_end opens.NoHeader = ends.NoJournal
open_end (opens.Damaged place) = ends.Damaged place
open_end opens.NoMemory = ends.NoMemory

-- no frame comes
abbrev pub input_end : InputEnd → SessionEnd
input_end inputs.ReadFault = ends.ReadFault
input_end (inputs.Frame fault) = ends.Frame fault
input_end inputs.TooLong = ends.TooLong

-- a frame isn't handled
abbrev pub step_end : StepFault → SessionEnd
step_end steps.SiteFault = ends.DiskFault
step_end steps.LineFault = ends.LineFault
step_end (steps.JournalFull tail need) = ends.JournalFull tail need
step_end steps.NoMemory = ends.NoMemory
