-- What a frame is, and its bytes (docs/FORMATS.md, "Frames").
use Rattle.std.specs.Prelude.{ℕ, ◌+◌, ◌≤◌, List, ◌∷◌, ◌++◌, length}
use Rattle.std.specs.Int.{to_be_bytes, w32}
use Rattle.faim_base.specs.Ranges.{IsEndpoint}
use Rattle.link_frames.specs.declared.frame.Frame.{Frame}
use Rattle.link_frames.specs.declared.frame.FrameKind.{FrameKind}
use Rattle.link_frames.specs.Kinds.{kind_byte}

-- a frame as a value: its kind, the endpoint whose line it goes over, and its payload
pub record Content : Type 0 where
  pub kind : FrameKind
  pub endpoint : List ℕ
  pub payload : List ℕ

abbrev pub content_of : Frame → Content
content_of f = record { kind = f.kind; endpoint = f.name; payload = f.payload.now }

-- how many bytes a payload has at most
abbrev pub greatest_payload : ℕ
greatest_payload = 8_192

-- how many bytes the length counts beside the payload: the kind's and the endpoint's
abbrev pub counted : ℕ
counted = 9

pub record IsFrame (f : Content) : Type 0 where
  pub endpoint : IsEndpoint f.endpoint
  pub payload : length f.payload ≤ greatest_payload

-- the length of what follows, the kind, the endpoint, the payload
abbrev pub frame_bytes : Content → List ℕ
frame_bytes f = to_be_bytes w32 (counted + length f.payload) ++ kind_byte f.kind ∷ (f.endpoint ++ f.payload)
