-- When a list is ready for its next record.
use Rattle.std.specs.Prelude.{◌≡◌}
use Rattle.site_core.specs.Log.{reads, NothingPending}
use Rattle.site_core.specs.Told.{Told}
use Rattle.torn_journal.specs.Journal.{tail_of}
use Rattle.journaled_list.specs.Rules.{Rules}
use Rattle.journaled_list.specs.Loading.{Found}
use Rattle.journaled_list.specs.Payloads.{Stands}

-- the image stands for what was found, nothing is pending, and the tail is that of the image
pub record IsReady {O E : Type 0} (rules : Rules O E) (found : Found O E) (told : Told) : Type 0 where
  pub stands : Stands rules (reads told.log) found.list found.last
  pub pending : NothingPending told.log
  pub place : found.tail ≡ tail_of stands.payloads
