-- The bytes that a splitter holds of the frame that it reads.
use Rattle.std.specs.Prelude.{ℕ, ◌||◌, ◌&&◌, Bool, List, length, nat_le, is_none}
use Rattle.link_frames.specs.Splits.{fault_at, size_at}

-- how many bytes come before the payload of a frame, and how many a frame has at most
abbrev pub head_length : ℕ
head_length = 13

abbrev pub greatest_frame : ℕ
greatest_frame = 8_205

-- no more than a head, or no more than the frame at the front
abbrev pub is_held : List ℕ → Bool
is_held bytes = nat_le (length bytes) head_length || (is_none (fault_at bytes) && nat_le (length bytes) (size_at bytes))
