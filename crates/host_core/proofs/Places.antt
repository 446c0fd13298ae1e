-- The entry at a place of a list that is kept oldest first.
use Rattle.std.proofs.Common.{◌≡◌, ℕ, ◌-◌, ◌<◌, ◌≤◌, List, [], ◌∷◌, length, get_or, reverse, Some, None, ◌∙◌, ap, refl, arith}
use Rattle.std.proofs.lemmas.List.{get_or-reverse, length-reverse}
use Rattle.std.proofs.lemmas.Bool.Decides.{nat_tests}
use Rattle.host_ledger.specs.declared.entries.Entry.{Entry}
use Rattle.faim_model.specs.Turns.{entry_at}

-- the newest entry stands at the front
found_in : (es : List Entry) (place : ℕ) (d : Entry) → place < length es → entry_at es place ≡ Some (get_or es (length es - 1 - place) d)
found_in [] place d lt = absurd (omega (arith, lt))
found_in (x ∷ older) place d lt = grind (arith, nat_tests, found_in older place d)

missing_in : (es : List Entry) (place : ℕ) → length es ≤ place → entry_at es place ≡ None
missing_in [] place le = refl
missing_in (x ∷ older) place le = grind (arith, nat_tests, missing_in older place)

pub entry_found : (xs : List Entry) (place : ℕ) (d : Entry) → place < length xs → entry_at (reverse xs) place ≡ Some (get_or xs place d)
entry_found xs place d lt =
    let inside : place < length (reverse xs) = omega (arith, length-reverse xs) in
    let near : length (reverse xs) - 1 - place < length xs = omega (arith, length-reverse xs) in
    let back : length xs - 1 - (length (reverse xs) - 1 - place) ≡ place = omega (arith, length-reverse xs) in
    found_in (reverse xs) place d inside ∙ ap Some (get_or-reverse xs (length (reverse xs) - 1 - place) d near ∙ ap (λ n. get_or xs n d) back)

pub entry_missing : (xs : List Entry) (place : ℕ) → length xs ≤ place → entry_at (reverse xs) place ≡ None
entry_missing xs place le = missing_in (reverse xs) place (omega (arith, length-reverse xs))
