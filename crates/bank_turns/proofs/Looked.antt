-- The tags that a reader looks for: what they hold, and that a mark leaves them as they are.
use Rattle.std.proofs.Common.{◌≡◌, ◌≢◌, refl, sym, ap, ◌∙◌, subst, ℕ, Bool, true, false, cond, eqb, List, [], ◌∷◌, length, Option, Some, None}
use Rattle.std.specs.Prelude.{◌==◌, slice_index, Ok, Err}
use Rattle.std.specs.List.{find}
use Rattle.std.proofs.lemmas.Bool.{eq-eqb, eqb-true, or_parts}
use Rattle.std.proofs.lemmas.List.{get_or-set_other}
use Rattle.faim_base.specs.declared.ids.IdFault.TheVariants.{BadDate}
use Rattle.faim_base.specs.declared.ids.Imad.{Imad}
use Rattle.faim_base.specs.declared.ids.Omad.{Omad}
use Rattle.faim_base.specs.Ids.{read_imad, read_omad}
use Rattle.faim_base.specs.Ranges.{IsImad, IsOmad}
use Rattle.faim_base.proofs.IdLemmas.{imad_text-read_imad, omad_text-read_omad}
use Rattle.faim_tags.specs.Layouts.{classes, row_of}
use Rattle.faim_tags.specs.Reading.{is_among}
use Rattle.faim_tags.specs.Spelling.{IsTag, Tag}
use Rattle.faim_tags.proofs.Ends.{fill-run}
use Rattle.faim_message.specs.Heads.{fixed_in, fixed_of}
use Rattle.faim_message.specs.Numbering.{put_after}
use Rattle.faim_message.specs.Spelling.{EachTag, leads, numbers, with_first_byte}
use Rattle.faim_message.proofs.Finds.{found_number}

-- what is found passes, and has what each has
pub found_passes : {A : Type 0} (p : A → Bool) (xs : List A) (x : A) → find p xs ≡ Some x → p x ≡ true
found_passes p [] x found = absurd cc
found_passes {A} p (y ∷ xs) x found = here (p y) refl found (found_passes p xs x)
  where
    here : (b : Bool) → p y ≡ b → cond b (Some y) (find p xs) ≡ Some x → (find p xs ≡ Some x → p x ≡ true) → p x ≡ true
    here true is found later = let same : y ≡ x = cc in subst (λ (z : A). p z ≡ true) same is
    here false is found later = later found

found_tag : (n : ℕ) (tags : List Tag) (v : Tag) → EachTag tags → find (λ w. w.no == n) tags ≡ Some v → IsTag v
found_tag n [] v each found = absurd cc
found_tag n (w ∷ tags) v each found = here (eqb w.no n) found (found_tag n tags v each.1)
  where
    here : (b : Bool) → cond b (Some w) (find (λ u. u.no == n) tags) ≡ Some v → (find (λ u. u.no == n) tags ≡ Some v → IsTag v) → IsTag v
    here true found later = let same : w ≡ v = cc in subst IsTag same each.0
    here false found later = later found

-- the fixed elements of a tag that is found are as long as its classes
found_long : (n : ℕ) (tags : List Tag) (v : Tag) → EachTag tags → find (λ w. w.no == n) tags ≡ Some v → length v.fixed ≡ length (classes n)
found_long n tags v each found =
    let is : v.no ≡ n = found_number n tags v found in
    (fill-run (classes v.no) v.fixed (found_tag n tags v each found).filled).1 ∙ ap (λ (k : ℕ). length (classes k)) is

-- how long the texts of identifiers are
both_long : (length (classes 1520) ≡ 22) × (length (classes 1120) ≡ 34)
unfolding row_of
both_long = (refl, refl)

-- an identifier that tags name is one
pub imad_named : (tags : List Tag) (imad : Imad) → EachTag tags → read_imad (fixed_in tags 1520) ≡ Ok imad → IsImad imad
imad_named tags imad each = go (find (λ v. v.no == 1520) tags) refl
  where
    go : (found : Option Tag) → find (λ v. v.no == 1520) tags ≡ found → read_imad (fixed_of found) ≡ Ok imad → IsImad imad
    go None is read = absurd (let wrong : Err BadDate ≡ Ok imad = read in cc)
    go (Some v) is read = (imad_text-read_imad v.fixed imad (found_long 1520 tags v each is ∙ both_long.0) read).1

-- so is an output's
pub omad_named : (tags : List Tag) (omad : Omad) → EachTag tags → read_omad (fixed_in tags 1120) ≡ Ok omad → IsOmad omad
omad_named tags omad each = go (find (λ v. v.no == 1120) tags) refl
  where
    go : (found : Option Tag) → find (λ v. v.no == 1120) tags ≡ found → read_omad (fixed_of found) ≡ Ok omad → IsOmad omad
    go None is read = absurd (let wrong : Err BadDate ≡ Ok omad = read in cc)
    go (Some v) is read = (omad_text-read_omad v.fixed omad (found_long 1120 tags v each is ∙ both_long.1) read).1

-- a tag that isn't the first is found as before, with any byte in the first
pub others_found : (first n : ℕ) (tags : List Tag) (place b : ℕ) → leads first tags ≡ true → eqb first n ≡ false
    → find (λ v. v.no == n) (with_first_byte tags place b) ≡ find (λ v. v.no == n) tags
others_found first n [] place b led other = refl
others_found first n (v ∷ tags) place b led other =
    let skipped : eqb v.no n ≡ false = subst (λ (k : ℕ). eqb k n ≡ false) (sym (eqb-true v.no first led)) other in
    rw skipped refl

-- the other bytes of the first tag stay
pub others_stay : (first : ℕ) (tags : List Tag) (place b i : ℕ) → leads first tags ≡ true → i ≢ place
    → slice_index (fixed_in (with_first_byte tags place b) first) i ≡ slice_index (fixed_in tags first) i
others_stay first [] place b i led other = refl
others_stay first (v ∷ tags) place b i led other =
    let own : eqb v.no first ≡ true = led in
    rw own (get_or-set_other v.fixed place i b 0 other)

-- a new tag is found where it was put
pub put_found : (n : ℕ) (t : Tag) (tags : List Tag) → is_among (numbers tags) t.no ≡ false
    → find (λ v. v.no == t.no) (put_after n t tags) ≡ Some t
put_found n t [] absent = rw (eq-eqb t.no t.no refl) refl
put_found n t (v ∷ tags) absent =
    let apart = or_parts (eqb v.no t.no) (is_among (numbers tags) t.no) absent in
    let own : eqb t.no t.no ≡ true = eq-eqb t.no t.no refl in
    let more = put_found n t tags apart.1 in
    elim (eqb v.no n) as (λ b. find (λ w. w.no == t.no) (cond b (v ∷ t ∷ tags) (v ∷ put_after n t tags)) ≡ Some t) [
      | true ↦ rw (apart.0, own) refl
      | false ↦ rw apart.0 more
    ]
