-- What a frame asks of a host (docs/FORMATS.md, "Frames").
use Rattle.std.specs.Prelude.{◌≡◌, ◌⊎◌, ℕ}
use Rattle.faim_base.specs.declared.ids.OutPos.{OutPos}
use Rattle.faim_base.specs.Calendar.{date_text}
use Rattle.faim_base.specs.Ids.{position_text}
use Rattle.faim_base.specs.Numbers.{IsDay}
use Rattle.faim_base.specs.Ranges.{IsPosition}
use Rattle.link_frames.specs.declared.frame.FrameKind.{FrameKind}
use Rattle.link_frames.specs.Frames.{Content as Frame}
use Rattle.host_ledger.specs.Soundness.{operator}

-- the frame asks for the outputs of its endpoint from this position on
pub record IsRetrieve (f : Frame) (p : OutPos) : Type 0 where
  pub kind : f.kind ≡ FrameKind.Retrieve
  pub position : IsPosition p
  pub payload : f.payload ≡ position_text p

-- the operator asks for a cycle of this date
pub record IsRoll (f : Frame) (date : ℕ) : Type 0 where
  pub kind : f.kind ≡ FrameKind.Roll
  pub sender : f.endpoint ≡ operator
  pub day : IsDay date
  pub payload : f.payload ≡ date_text date

-- the frame is one that a host takes: a submission of any bytes, a retrieval, or the operator's Roll
abbrev pub IsRequest : Frame → Type 0
IsRequest f = (f.kind ≡ FrameKind.Submit) ⊎ (((p : OutPos) × IsRetrieve f p) ⊎ ((date : ℕ) × IsRoll f date))
