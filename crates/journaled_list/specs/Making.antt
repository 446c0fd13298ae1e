-- What making a list says.
use Rattle.std.specs.Prelude.{ℕ, List, Result, Ok, Err}
use Rattle.site_core.specs.Told.{Told}
use Rattle.torn_journal.specs.Create.{HasCreated, Creates}
use Rattle.torn_journal.specs.declared.faults.CreateFault.{CreateFault}
use Rattle.journaled_list.specs.Rules.{Rules}
use Rattle.journaled_list.specs.Loading.{Found}
use Rattle.journaled_list.specs.Ready.{IsReady}

-- the disk was empty, the device calls are those that make a journal, nothing was sent, and the list is ready
pub record Makes {O E : Type 0} (rules : Rules O E) (opening : List ℕ) (found : Found O E) (old new : Told) : Type 0 where
  pub made : HasCreated opening found.tail old new
  pub ready : IsReady rules found new

abbrev pub Inits : {T O E : Type 0} → Rules O E → (T → Found O E) → List ℕ → Result T CreateFault → Told → Told → Type 0
Inits rules view opening (Ok kept) old new = Makes rules opening (view kept) old new
Inits rules view opening (Err fault) old new = Creates opening (Err fault) old new
