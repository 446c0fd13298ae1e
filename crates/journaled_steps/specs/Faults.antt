-- What the answers of a step say of the site's counts and of reasons, and after which of them nothing changed.
use Rattle.std.specs.Prelude.{◌≡◌, ◌≤◌, ℕ, Result, Err}
use Rattle.site_core.specs.Counts.{Rose}
use Rattle.site_core.specs.Told.{Told, HasReason}
use Rattle.site_core.specs.Told.Part.{Disk, Line}
use Rattle.journaled_steps.specs.declared.faults.StepFault.{StepFault}
use Rattle.journaled_steps.specs.declared.faults.StepFault.TheVariants.{SiteFault, LineFault, JournalFull, NoMemory}

-- calls of the disk failed where the step broke off at one, and else none did
abbrev pub DiskCount : {T : Type 0} → Result T StepFault → ℕ → ℕ → Type 0
DiskCount (Err SiteFault) before now = (before ≤ now) × Rose before now
DiskCount other before now = now ≡ before

-- and so do sends
abbrev pub LineCount : {T : Type 0} → Result T StepFault → ℕ → ℕ → Type 0
LineCount (Err LineFault) before now = (before ≤ now) × Rose before now
LineCount other before now = now ≡ before

-- why the call failed at which the step broke off
abbrev pub FaultReason : {T : Type 0} → Result T StepFault → Told → Told → Type 0
FaultReason (Err SiteFault) old new = HasReason Disk old new
FaultReason (Err LineFault) old new = HasReason Line old new
FaultReason other old new = Unit {0}

-- what holds where the journal is full or memory ran out
abbrev pub IfUnchanged : {T : Type 0} → Result T StepFault → Type 0 → Type 0
IfUnchanged (Err (JournalFull tail need)) P = P
IfUnchanged (Err NoMemory) P = P
IfUnchanged other P = Unit {0}
