-- The banks that a world may have, and the events that it then may have (docs/FORMATS.md, "Scripts").
use Rattle.std.specs.Prelude.{◌≡◌, ℕ, ◌≤◌, Bool, false, List, length, bytes_eq, IsTrue, Option, Some, None}
use Rattle.std.specs.List.{AllByRecursion, IsDistinct, list_any}
use Rattle.faim_base.specs.Numbers.{IsDay, IsMoment}
use Rattle.faim_base.specs.Ranges.{IsEndpoint, IsPosition}
use Rattle.host_ledger.specs.declared.config.Account.{Account}
use Rattle.host_ledger.specs.Accounts.{has_endpoint}
use Rattle.world_events.specs.declared.acts.Act.{Act}
use Rattle.world_events.specs.declared.acts.Act.TheVariants.{Clock, Submit, Retrieve, Draft, Tick, Roll, Deliver, Restart}
use Rattle.world_events.specs.declared.acts.End.{End}
use Rattle.world_events.specs.declared.acts.End.TheVariants.{Host, Bank}
use Rattle.world_events.specs.declared.acts.Event.{Event}

-- how many banks there may be
abbrev pub bank_limit : ℕ
bank_limit = 8

-- what a submitted or drafted text may have at most, in bytes
abbrev pub text_limit : ℕ
text_limit = 8_192

-- the greatest number of a frame, of a device call and of a tear
abbrev pub frame_limit : ℕ
frame_limit = 1_000_000_000

abbrev pub call_limit : ℕ
call_limit = 1_000_000

abbrev pub tear_limit : ℕ
tear_limit = 1_000_000

-- the endpoint is one of these banks
abbrev pub is_declared : List (List ℕ) → List ℕ → Bool
is_declared banks e = list_any (λ b. bytes_eq e b) banks

-- the banks of a world: each once, and each at an endpoint of these accounts
pub record AreBanks (accounts : List Account) (banks : List (List ℕ)) : Type 0 where
  pub distinct : IsDistinct bytes_eq banks
  pub most : length banks ≤ bank_limit
  pub served : AllByRecursion (λ e. IsTrue (has_endpoint accounts e)) banks

-- a line on which messages come that is no bank's here
pub record IsLine (banks : List (List ℕ)) (e : List ℕ) : Type 0 where
  pub named : IsEndpoint e
  pub apart : is_declared banks e ≡ false

abbrev pub IsText : List ℕ → Type 0
IsText text = length text ≤ text_limit

-- the host, or one of the banks
abbrev pub IsEnd : List (List ℕ) → End → Type 0
IsEnd banks Host = Unit {0}
IsEnd banks (Bank e) = IsTrue (is_declared banks e)

-- what may happen where these are the banks
abbrev pub IsAct : List (List ℕ) → Act → Type 0
IsAct banks (Clock moment) = IsMoment moment
IsAct banks (Submit line text) = IsLine banks line × IsText text
IsAct banks (Retrieve line at) = IsLine banks line × IsPosition at
IsAct banks (Draft bank text) = IsTrue (is_declared banks bank) × IsText text
IsAct banks (Tick bank) = IsTrue (is_declared banks bank)
IsAct banks (Roll date) = IsDay date
IsAct banks (Deliver to number) = IsEnd banks to × (1 ≤ number) × (number ≤ frame_limit)
IsAct banks (Restart which) = IsEnd banks which

-- every act but that of the clock is done by an end, which may be stopped
abbrev pub HasEnd : Act → Type 0
HasEnd (Clock moment) = ⊥
HasEnd (Submit line text) = Unit {0}
HasEnd (Retrieve line at) = Unit {0}
HasEnd (Draft bank text) = Unit {0}
HasEnd (Tick bank) = Unit {0}
HasEnd (Roll date) = Unit {0}
HasEnd (Deliver to number) = Unit {0}
HasEnd (Restart which) = Unit {0}

-- the call at which an act is stopped, counted from 1, and the tear
abbrev pub IsStop : Option (ℕ × ℕ) → Act → Type 0
IsStop None act = Unit {0}
IsStop (Some s) act = HasEnd act × (1 ≤ s.0) × (s.0 ≤ call_limit) × (s.1 ≤ tear_limit)

-- what may be an event where these are the banks
pub record IsEvent (banks : List (List ℕ)) (x : Event) : Type 0 where
  pub act : IsAct banks x.act
  pub stop : IsStop x.stop x.act
