-- Rows of the code's tables as rows of the definitions'.
use Rattle.std.proofs.Common.{◌≡◌, ℕ, Bool, true, false, cond, ◌||◌, List, [], ◌∷◌, ◌++◌, map, Option, Some, None, refl, ap, ◌∙◌}
use Rattle.std.specs.Prelude.{is_some, bytes_eq, option_map}
use Rattle.std.specs.List.{find, list_any, flat_map}
use Rattle.std.specs.Option.{option_map_or}

-- a row is found in a list exactly where its image is found among the images
pub find-map : {X Y : Type 0} (h : X → Y) (p : Y → Bool) (xs : List X) → find p (map h xs) ≡ option_map h (find (λ x. p (h x)) xs)
find-map h p [] = refl
find-map h p (x ∷ xs) = here (p (h x)) (find-map h p xs)
  where
    here : (b : Bool) → find p (map h xs) ≡ option_map h (find (λ w. p (h w)) xs) → cond b (Some (h x)) (find p (map h xs)) ≡ option_map h (cond b (Some x) (find (λ w. p (h w)) xs))
    here true more = refl
    here false more = more

-- a test passes for some item exactly where one is found
pub is_some-find : {X : Type 0} (p : X → Bool) (xs : List X) → is_some (find p xs) ≡ list_any p xs
is_some-find p [] = refl
is_some-find p (x ∷ xs) = here (p x) (is_some-find p xs)
  where
    here : (b : Bool) → is_some (find p xs) ≡ list_any p xs → is_some (cond b (Some x) (find p xs)) ≡ b || list_any p xs
    here true more = refl
    here false more = more

-- lines of images
pub flat_map-map : {X Y A : Type 0} (f : Y → List A) (h : X → Y) (xs : List X) → flat_map f (map h xs) ≡ flat_map (λ x. f (h x)) xs
flat_map-map f h [] = refl
flat_map-map f h (x ∷ xs) = ap (λ rest. f (h x) ++ rest) (flat_map-map f h xs)
