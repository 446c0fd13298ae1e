-- Bytes as frames, and what is left of them (docs/FORMATS.md, "Frames").
use Rattle.std.specs.Prelude.{◌≡◌, ℕ, ◌+◌, ◌<◌, ◌&&◌, Bool, false, List, [], ◌∷◌, ◌++◌, length, take, drop, min, nat_lt, nat_le, if◌then◌else◌, Option, Some, None, is_some, is_none, Result, Ok, Err, slice_index}
use Rattle.std.specs.Int.{from_be_bytes, w32}
use Rattle.std.specs.List.{flat_map, list_all, AllByRecursion}
use Rattle.faim_base.specs.Text.{is_name_byte}
use Rattle.link_frames.specs.declared.fault.FrameFault.{FrameFault}
use Rattle.link_frames.specs.declared.fault.FrameFault.TheVariants.{BadLength, BadKind, BadEndpoint, CutFrame}
use Rattle.link_frames.specs.Frames.{Content, IsFrame, frame_bytes, counted, greatest_payload}
use Rattle.link_frames.specs.Kinds.{kind_of}

-- bytes are numbers below 256
abbrev pub AreBytes : List ℕ → Type 0
AreBytes bytes = (i : ℕ) → slice_index bytes i < 256

-- the number that the four bytes of the length give
abbrev pub length_at : List ℕ → ℕ
length_at bytes = from_be_bytes w32 (take 4 bytes)

-- how many bytes the frame at the front has with those of its length
abbrev pub size_at : List ℕ → ℕ
size_at bytes = 4 + length_at bytes

-- a frame's length counts its kind, its endpoint and a payload that isn't too long
abbrev pub may_be_length : ℕ → Bool
may_be_length n = nat_le counted n && nat_le n (counted + greatest_payload)

-- what is wrong with the endpoint, of which some bytes are there; with the kind and the endpoint; and with all of a front
abbrev pub endpoint_fault : List ℕ → Option FrameFault
endpoint_fault name = if list_all is_name_byte name then None else Some BadEndpoint

abbrev pub kind_fault : List ℕ → Option FrameFault
kind_fault [] = None
kind_fault (k ∷ rest) = if is_some (kind_of k) then endpoint_fault (take 8 rest) else Some (BadKind k)

-- the first fault that the bytes at a frame's place show: each part is judged as soon as it is there
abbrev pub fault_at : List ℕ → Option FrameFault
fault_at bytes =
    if nat_lt (length bytes) 4 then None
    else (if may_be_length (length_at bytes) then kind_fault (drop 4 bytes) else Some (BadLength (length_at bytes)))

-- a whole frame stands at the front
abbrev pub is_whole : List ℕ → Bool
is_whole bytes = nat_le 4 (length bytes) && (nat_le (size_at bytes) (length bytes) && is_none (fault_at bytes))

-- the bytes are these frames, and then a rest with no whole frame at its front
pub record Splits (bytes : List ℕ) (frames : List Content) (rest : List ℕ) : Type 0 where
  pub is : bytes ≡ flat_map frame_bytes frames ++ rest
  pub each : AllByRecursion IsFrame frames
  pub part : is_whole rest ≡ false

-- how many bytes belong to the frame at the front, as far as they are there
abbrev pub front_length : List ℕ → ℕ
front_length bytes = if nat_lt (length bytes) 4 then length bytes else min (length bytes) (size_at bytes)

-- what an end after these bytes of a frame says: the first fault, or that the frame is cut off
abbrev pub cut_at : List ℕ → Result (Unit {0}) FrameFault
cut_at [] = Ok tt
cut_at (b ∷ bytes) = Err (CutFrame (length (b ∷ bytes)))

abbrev pub fault_or_cut : Option FrameFault → List ℕ → Result (Unit {0}) FrameFault
fault_or_cut (Some fault) bytes = Err fault
fault_or_cut None bytes = cut_at bytes

abbrev pub end_at : List ℕ → Result (Unit {0}) FrameFault
end_at rest = fault_or_cut (fault_at rest) rest
