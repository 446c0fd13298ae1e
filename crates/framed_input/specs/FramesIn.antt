-- The frames of an input as a function of its bytes (docs/FORMATS.md, "Frames").
use Rattle.std.specs.Prelude.{ℕ, zero, suc, List, [], ◌∷◌, length, take, drop, slice_index, if◌then◌else◌, Option, Some, None}
use Rattle.std.specs.List.{flat_map}
use Rattle.link_frames.specs.declared.frame.FrameKind.{FrameKind}
use Rattle.link_frames.specs.Frames.{Content, frame_bytes}
use Rattle.link_frames.specs.Kinds.{kind_of}
use Rattle.link_frames.specs.Splits.{is_whole, size_at}

-- what comes after the frame at the front
abbrev pub after_front : List ℕ → List ℕ
after_front bytes = drop (size_at bytes) bytes

-- the frame at the front, where a whole one stands there
abbrev pub front_by : Option FrameKind → List ℕ → Option Content
front_by None bytes = None
front_by (Some kind) bytes = Some (record { kind = kind; endpoint = take 8 (drop 5 bytes); payload = drop 13 (take (size_at bytes) bytes) })

abbrev pub front_frame : List ℕ → Option Content
front_frame bytes = if is_whole bytes then front_by (kind_of (slice_index bytes 4)) bytes else None

-- the frame, if there is one, and then those
abbrev pub put_first : Option Content → List Content → List Content
put_first None frames = []
put_first (Some f) frames = f ∷ frames

-- at most so many frames from the front on, as long as whole ones stand there
abbrev pub first_frames : ℕ → List ℕ → List Content
first_frames zero bytes = []
first_frames (suc n) bytes = put_first (front_frame bytes) (first_frames n (after_front bytes))

-- the frames of an input, and the bytes after them
abbrev pub frames_in : List ℕ → List Content
frames_in bytes = first_frames (length bytes) bytes

abbrev pub rest_in : List ℕ → List ℕ
rest_in bytes = drop (length (flat_map frame_bytes (frames_in bytes))) bytes
