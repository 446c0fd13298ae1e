-- What a splitter holds once the frame that it lent is given back.
use Rattle.std.specs.Prelude.{◌≡◌, ⊤, ℕ, List, [], if◌then◌else◌}
use Rattle.std.specs.Borrow.{follows_so, MutBor, Fml}
use mathlib.Core.Option.{none}
use Rattle.link_frames.specs.contracts.splitter.Splitter.{the_row}
use Rattle.link_frames.specs.Splits.{is_whole}

-- nothing where a whole frame was handed out, and else what it held
abbrev pub left_after : List ℕ → List ℕ
left_after held = if is_whole held then [] else held

abbrev pub HandsOut : MutBor (List ℕ) → Fml
HandsOut s = follows_so the_row the_row s.ghost_name none (λ _ _. ⊤) (λ held. held ≡ left_after s.now)
