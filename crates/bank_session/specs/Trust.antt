-- What a bank's session keeps where its host covers what comes to it.
use Rattle.std.specs.Prelude.{ℕ, List, length, take}
use Rattle.std.specs.List.{AllByRecursion}
use Rattle.site_core.specs.Log.{reads, Left, NothingPending}
use Rattle.site_core.specs.Told.{Told}
use Rattle.link_frames.specs.Splits.{AreBytes}
use Rattle.framed_input.specs.FramesIn.{frames_in}
use Rattle.framed_input.specs.Limits.{greatest_input}
use Rattle.host_ledger.specs.declared.config.Config.{Config}
use Rattle.host_ledger.specs.declared.entries.Entry.{Entry}
use Rattle.bank_accord.specs.Accord.{Accords, IsHost, IsTrusted}
use Rattle.node_session.specs.Kinds.{KeptStands}
use Rattle.bank_session.specs.BankKind.{Kept, bank_kind}

-- these are bytes, and this host's list covers each acknowledgement and output among the whole frames of the first 2^40
pub record IsTrustedInput (c : Config) (es : List Entry) (bytes : List ℕ) : Type 0 where
  pub sound : AreBytes bytes
  pub trusted : AllByRecursion (IsTrusted c es) (frames_in (take greatest_input bytes))

-- where the image stood for a list that was in accord with this host, it stands for such a list whatever a stop leaves
abbrev pub KeepsAccord : Config → List Entry → Told → Told → Type 0
KeepsAccord c es old new = (kept now : Kept) (image : List ℕ) (found : List (List ℕ))
    → NothingPending old.log → KeptStands bank_kind (reads old.log) kept
    → IsHost c es kept.opening → Accords c es kept.opening kept.entries
    → Left (length old.log) new.log image found → KeptStands bank_kind image now → Accords c es now.opening now.entries
