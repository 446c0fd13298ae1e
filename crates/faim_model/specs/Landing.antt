-- How far a host's step comes before a stop, and what stands then.
use Rattle.std.specs.Prelude.{◌≡◌, ℕ, ◌≤◌, Bool, true, false, List, ◌++◌, length, take, Option, None, IsSome}
use Rattle.link_frames.specs.Frames.{Content as Frame}
use Rattle.host_ledger.specs.declared.entries.Entry.{Entry}
use Rattle.faim_model.specs.Turns.{adds_to}
use Rattle.faim_model.specs.Steps.{HostStep}

-- a step's entry, where it was kept
abbrev pub kept_of : Bool → Option Entry → Option Entry
kept_of true adds = adds
kept_of false adds = None

-- what stands: the entries, and all frames that were sent, the oldest first
pub record Landed : Type 0 where
  pub entries : List Entry
  pub frames : List Frame

-- what stands after a step over these entries and frames, where its entry was kept or not and so many frames were sent
abbrev pub landed : List Entry → List Frame → HostStep → Bool → ℕ → Landed
landed es before step kept n = record {
  entries = adds_to (kept_of kept step.adds) es;
  frames = before ++ take n step.sends;
}

-- which ways there are: no more frames are sent than the step has, and none while its entry isn't kept
pub record InOrder (step : HostStep) (kept : Bool) (n : ℕ) : Type 0 where
  pub few : n ≤ length step.sends
  pub unkept : IsSome step.adds → kept ≡ false → n ≡ 0
