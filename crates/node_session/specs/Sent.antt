-- The frames of things that come one after another.
use Rattle.std.specs.Prelude.{List, [], ◌∷◌, ◌++◌}
use Rattle.link_frames.specs.Frames.{Content as Frame}

-- what is sent at several things in their order, by what each makes of what is kept, and the frames that it sends
abbrev pub frames_in_order : {K T : Type 0} → (K → T → K) → (K → T → List Frame) → K → List T → List Frame
frames_in_order after sends kept [] = []
frames_in_order after sends kept (t ∷ later) = sends kept t ++ frames_in_order after sends (after kept t) later
