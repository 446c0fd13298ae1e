-- Frames that lie one behind another in one list of bytes.
use Rattle.std.specs.Prelude.{◌≡◌, ◌≤◌, ◌-◌, ℕ, List, [], ◌∷◌, take, drop}

-- the frames that end at these places; the first begins at the start
abbrev pub frames_from : ℕ → List ℕ → List ℕ → List (List ℕ)
frames_from start bytes [] = []
frames_from start bytes (e ∷ ends) = take (e - start) (drop start bytes) ∷ frames_from e bytes ends

-- no end lies before the one before it, and the last is that of the bytes
abbrev pub AreEnds : ℕ → ℕ → List ℕ → Type 0
AreEnds start size [] = start ≡ size
AreEnds start size (e ∷ ends) = (start ≤ e) × AreEnds e size ends
