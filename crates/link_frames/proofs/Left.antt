-- What a splitter holds once the bytes that it lent are given back.
use Rattle.std.proofs.Common.{◌≡◌, Bool, true, false, List, ℕ, [], if◌then◌else◌, refl}
use Rattle.link_frames.specs.Splits.{is_whole}
use Rattle.link_frames.specs.Lending.{left_after}

left_by_case : (whole : Bool) (held : List ℕ) → (whole ≡ true → false ≡ true) → (if whole then [] else held) ≡ held
left_by_case true held part = let h = part refl in absurd (cc)
left_by_case false held part = refl

-- where they are no whole frame, what it held
pub part_stays : (held : List ℕ) → (is_whole held ≡ true → false ≡ true) → left_after held ≡ held
part_stays held part = left_by_case (is_whole held) held part
