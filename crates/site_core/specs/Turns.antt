-- What the numbers of a site in memory say of one call.
use Rattle.std.specs.Prelude.{◌≡◌, ◌⊎◌, ◌↔◌, ◌+◌, ◌-◌, ◌^◌, ◌<◌, ◌≤◌, min, true, false, IsTrue, List}
use Rattle.site_core.specs.Counts.{Rose}
use Rattle.site_core.specs.declared.counts.Counts.{Counts}
use Rattle.site_core.specs.declared.counts.Faults.{Faults}
use Rattle.site_core.specs.declared.counts.Turn.{Turn}
use Rattle.site_core.specs.declared.counts.Turn.TheVariants.{Goes, Stops, Fails}
use Rattle.site_core.specs.Log.{Act}
use Rattle.site_core.specs.Told.{Told}

-- what a site tells that has these numbers
abbrev pub told_of : List Act → Counts → Faults → Faults → Told
told_of log counts disk line = record {
  log = log;
  calls = counts.made;
  failed = counts.failed;
  stops = counts.stops;
  armed = counts.armed;
  stopped = counts.stopped;
  lacks = counts.lacks;
  unarmed_disk = disk.unarmed;
  unarmed_line = line.unarmed;
}

-- the call goes on; or it reaches the stop; or it fails, on a site that is stopped or for no such reason
abbrev pub TurnsOut : Turn → Counts → Counts → Faults → Faults → Type 0
TurnsOut Goes counts now faults more = (now.failed ≡ false) × (now.made ≡ counts.made + 1) × (now.stops ≡ counts.stops) × (counts.stopped ≡ false) × (more ≡ faults)
TurnsOut Stops counts now faults more = (now.failed ≡ true) × (now.made ≡ counts.made + 1) × (counts.stops < now.stops) × (counts.stopped ≡ false) × Rose faults.all more.all × (more.unarmed ≡ faults.unarmed)
TurnsOut Fails counts now faults more = (now.failed ≡ true) × (now.stops ≡ counts.stops) × Rose faults.all more.all
    × ((IsTrue counts.stopped × (now.made ≡ counts.made + 1) × (more.unarmed ≡ faults.unarmed)) ⊎ (((counts.stopped ≡ false) ⊎ (counts.made ≡ 2 ^ 64 - 1)) × Rose faults.unarmed more.unarmed))

pub record Begins (turn : Turn) (counts now : Counts) (faults more : Faults) : Type 0 where
  pub once : now.made ≡ min (counts.made + 1) (2 ^ 64 - 1)
  pub kept : counts.made ≤ now.made
  pub armed : now.armed ≡ counts.armed - (now.made - counts.made)
  pub stops : now.stops + min 1 now.armed ≡ counts.stops + min 1 counts.armed
  pub stopped : IsTrue now.stopped ↔ (IsTrue counts.stopped ⊎ (counts.stops < now.stops))
  pub lacks : now.lacks ≡ counts.lacks
  pub later : faults.all ≤ more.all
  pub unarmed : faults.unarmed ≤ more.unarmed
  pub full : counts.made ≡ 2 ^ 64 - 1 → (turn ≡ Fails) × Rose faults.unarmed more.unarmed
  pub out : TurnsOut turn counts now faults more
