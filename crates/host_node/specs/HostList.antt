-- A host's list as its journal keeps it.
use Rattle.std.specs.Prelude.{ℕ, List, map}
use Rattle.link_frames.specs.Frames.{frame_bytes}
use Rattle.host_ledger.specs.declared.config.Config.{Config}
use Rattle.host_ledger.specs.declared.entries.Entry.{Entry}
use Rattle.host_ledger.specs.Soundness.{IsConfig}
use Rattle.entry_codec.specs.Config.{config_bytes}
use Rattle.entry_codec.specs.Spelling.{entry_bytes}
use Rattle.host_ledger.specs.Ranges.{IsEntry}
use Rattle.faim_model.specs.Lawful.{Follows}
use Rattle.faim_model.specs.Sending.{resume_frames}
use Rattle.host_core.specs.State.{State}
use Rattle.journaled_list.specs.Rules.{Rules, Listed}

-- it opens with a sound configuration, and an entry may come that has a spelling and that the rules allow
abbrev pub host_rules : Rules Config Entry
host_rules = record {
  IsOpening = IsConfig;
  opening_bytes = config_bytes;
  entry_bytes = entry_bytes;
  MayFollow = λ c older x. IsEntry x × Follows c older x;
}

-- a host's configuration and entries
abbrev pub listed : State → Listed Config Entry
listed s = record { opening = s.config; entries = s.entries }

-- what is sent again of the newest entries, as bytes
abbrev pub sent_again : Listed Config Entry → ℕ → List (List ℕ)
sent_again list last = map frame_bytes (resume_frames list.opening list.entries last)
