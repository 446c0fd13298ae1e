-- The bytes of the kinds of frames (docs/FORMATS.md, "Frames").
use Rattle.std.specs.Prelude.{ℕ, ◌==◌, List, [], ◌∷◌, Option}
use Rattle.std.specs.List.{find}
use Rattle.link_frames.specs.declared.frame.FrameKind.{FrameKind}
use Rattle.link_frames.specs.declared.frame.FrameKind.TheVariants.{Submit, Retrieve, Ack, Output, Roll, Draft, Tick}

abbrev pub kind_byte : FrameKind → ℕ
kind_byte Submit = 1
kind_byte Retrieve = 2
kind_byte Ack = 3
kind_byte Output = 4
kind_byte Roll = 5
kind_byte Draft = 6
kind_byte Tick = 7

-- the seven kinds, in the order of their bytes
abbrev pub kinds : List FrameKind
kinds = Submit ∷ Retrieve ∷ Ack ∷ Output ∷ Roll ∷ Draft ∷ Tick ∷ []

-- the kind with this byte
abbrev pub kind_of : ℕ → Option FrameKind
kind_of b = find (λ k. kind_byte k == b) kinds
