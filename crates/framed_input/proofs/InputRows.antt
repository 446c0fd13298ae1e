-- Worked inputs: their frames, what comes after them, and what is answered at the limit.
use Rattle.std.proofs.Common.{◌≡◌, ℕ, List, [], ◌∷◌, Some, None, refl}
use Rattle.std.specs.Prelude.{Ok, Err, true, false}
use Rattle.link_frames.specs.declared.frame.FrameKind.TheVariants.{Submit, Tick}
use Rattle.link_frames.specs.declared.fault.FrameFault.TheVariants.{BadKind, CutFrame}
use Rattle.framed_input.specs.declared.ends.InputEnd.TheVariants.{Frame, TooLong}
use Rattle.framed_input.specs.FramesIn.{frames_in, rest_in}
use Rattle.framed_input.specs.Limits.{greatest_input}
use Rattle.framed_input.specs.Standing.{standing, ended}

-- a Submit of BANKA001 with the payload HI, a Tick of BANKB001 with none, and three bytes of a length
abbrev two_frames : List ℕ
two_frames = 0 ∷ 0 ∷ 0 ∷ 11 ∷ 1 ∷ 66 ∷ 65 ∷ 78 ∷ 75 ∷ 65 ∷ 48 ∷ 48 ∷ 49 ∷ 72 ∷ 73 ∷ 0 ∷ 0 ∷ 0 ∷ 9 ∷ 7 ∷ 66 ∷ 65 ∷ 78 ∷ 75 ∷ 66 ∷ 48 ∷ 48 ∷ 49 ∷ 0 ∷ 0 ∷ 0 ∷ []

frames_of_two : frames_in two_frames
    ≡ record { kind = Submit; endpoint = 66 ∷ 65 ∷ 78 ∷ 75 ∷ 65 ∷ 48 ∷ 48 ∷ 49 ∷ []; payload = 72 ∷ 73 ∷ [] }
    ∷ record { kind = Tick; endpoint = 66 ∷ 65 ∷ 78 ∷ 75 ∷ 66 ∷ 48 ∷ 48 ∷ 49 ∷ []; payload = [] } ∷ []
frames_of_two = refl

rest_of_two : rest_in two_frames ≡ 0 ∷ 0 ∷ 0 ∷ []
rest_of_two = refl

-- no frame comes after a fault
frames_of_bad : frames_in (0 ∷ 0 ∷ 0 ∷ 8 ∷ two_frames) ≡ []
frames_of_bad = refl

rest_of_none : rest_in [] ≡ []
rest_of_none = refl

-- the limit is 2 to the 40th
limit_is : greatest_input ≡ 1_099_511_627_776
limit_is = refl

-- at the limit nothing is answered without a read; a byte beyond it is too many
at_limit : standing greatest_input (record { held = 0 ∷ []; taken = 1_099_511_627_776 }) ≡ None
at_limit = refl

beyond_limit : standing greatest_input (record { held = 0 ∷ []; taken = 1_099_511_627_777 }) ≡ Some (Err TooLong)
beyond_limit = refl

-- a fault and a whole frame come first
fault_stands : standing greatest_input (record { held = 0 ∷ 0 ∷ 0 ∷ 9 ∷ 8 ∷ []; taken = 5 }) ≡ Some (Err (Frame (BadKind 8)))
fault_stands = refl

frame_stands : standing greatest_input (record { held = two_frames; taken = 1_099_511_627_776 }) ≡ Some (Ok true)
frame_stands = refl

-- an end after nothing is good, and one after three bytes cuts a frame off
good_end : ended [] ≡ Ok false
good_end = refl

cut_end : ended (0 ∷ 0 ∷ 0 ∷ []) ≡ Err (Frame (CutFrame 3))
cut_end = refl
