-- What the faults of a resume say of reasons and counts.
use Rattle.std.specs.Prelude.{◌≡◌, ℕ, ◌≤◌, Result, Err}
use Rattle.site_core.specs.Counts.{Rose}
use Rattle.site_core.specs.Told.{Told, HasReason}
use Rattle.site_core.specs.Told.Part.{Disk, Line}
use Rattle.journaled_list.specs.declared.faults.OpenFault.{OpenFault}
use Rattle.journaled_list.specs.declared.faults.OpenFault.TheVariants.{SiteFault, LineFault}

-- why a call of that part failed
abbrev pub OpenReason : {T : Type 0} → Result T OpenFault → Told → Told → Type 0
OpenReason (Err SiteFault) old new = HasReason Disk old new
OpenReason (Err LineFault) old new = HasReason Line old new
OpenReason other old new = Unit {0}

-- the count of a part's failures rises with a fault of that part, and stays at each other answer
abbrev pub OpenDiskCount : {T : Type 0} → Result T OpenFault → ℕ → ℕ → Type 0
OpenDiskCount (Err SiteFault) before now = (before ≤ now) × Rose before now
OpenDiskCount other before now = now ≡ before

abbrev pub OpenLineCount : {T : Type 0} → Result T OpenFault → ℕ → ℕ → Type 0
OpenLineCount (Err LineFault) before now = (before ≤ now) × Rose before now
OpenLineCount other before now = now ≡ before
