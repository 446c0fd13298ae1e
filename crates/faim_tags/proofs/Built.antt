-- The tag that is made of its parts.
use Rattle.std.proofs.Common.{◌≡◌, ℕ, suc, ◌+◌, ◌<◌, Bool, true, false, eqb, not, ◌&&◌, List, [], ◌∷◌, ◌++◌, length, get_or, drop, Some, refl, sym, ap, subst, ◌∙◌, arith, inl, inr}
use Rattle.std.specs.Prelude.{if◌then◌else◌}
use Rattle.std.proofs.lemmas.Bool.{and_parts, cases_lt, ne_eqb, not-false}
use Rattle.std.proofs.lemmas.List.{drop_more, drop_all, take_all}
use Rattle.faim_base.specs.Tags.{is_tag_number, tag_numbers}
use Rattle.faim_base.specs.declared.judgement.Refused.{Refused}
use Rattle.faim_base.specs.declared.judgement.Refused.TheVariants.{Byte, Cut}
use Rattle.faim_tags.specs.Spelling.{Tag, IsTag, is_empty}
use Rattle.faim_tags.specs.Reading.{is_past, goes_on}
use Rattle.faim_tags.specs.Steps.{Progress, Inside, steps, may_end, tag_of, Stuck, Completes, Fails}
use Rattle.faim_tags.specs.Partial.{Reaches}
use Rattle.faim_tags.specs.declared.partial.TagPart.{TagPart}
use Rattle.faim_tags.proofs.Goods.{part-none, steps-good}
use Rattle.faim_tags.proofs.Ends.{ends}

-- the test of a length
empty_is : {X : Type 0} (xs : List X) → eqb (length xs) 0 ≡ is_empty xs
empty_is [] = refl
empty_is (x ∷ xs) = ne_eqb (suc (length xs)) 0 (λ e. omega arith)

-- no further element
pub tag_without : (n : ℕ) (fixed : List ℕ) (stars : List (List ℕ)) (part : List ℕ) (none : Bool) → eqb (length part) 0 ≡ true → none ≡ eqb (length stars) 0 → tag_of (Inside n fixed stars part) ≡ record { no = n; fixed = fixed; stars = stars; closed = not none }
tag_without n fixed stars part none e is =
    ap (λ (t : Bool). if t then record { no = n; fixed = fixed; stars = stars; closed = not (is_empty stars) } else record { no = n; fixed = fixed; stars = stars ++ part ∷ []; closed = false }) (sym (empty_is part) ∙ e)
    ∙ ap (λ (t : Bool). record { no = n; fixed = fixed; stars = stars; closed = not t }) (sym (is ∙ empty_is stars))

-- a further element without its star
pub tag_with : (n : ℕ) (fixed : List ℕ) (stars : List (List ℕ)) (part : List ℕ) → eqb (length part) 0 ≡ false → tag_of (Inside n fixed stars part) ≡ record { no = n; fixed = fixed; stars = stars ++ part ∷ []; closed = false }
tag_with n fixed stars part e =
    ap (λ (t : Bool). if t then record { no = n; fixed = fixed; stars = stars; closed = not (is_empty stars) } else record { no = n; fixed = fixed; stars = stars ++ part ∷ []; closed = false }) (sym (empty_is part) ∙ e)

-- what was read up to where a tag may end is a tag
pub ended_tag : (n : ℕ) (fixed : List ℕ) (stars : List (List ℕ)) (part bytes : List ℕ) → is_tag_number n ≡ true → steps tag_numbers (Inside n [] [] []) bytes ≡ Some (Inside n fixed stars part) → may_end (Inside n fixed stars part) ≡ true → IsTag (tag_of (Inside n fixed stars part))
ended_tag n fixed stars part bytes e run may =
    let g = steps-good tag_numbers (Inside n [] [] []) bytes (Inside n fixed stars part) (λ m h. h) (part-none tag_numbers n e e) run in
    (ends tag_numbers n fixed stars part g.0 may).0

-- where nothing more is read, and a tag may end, it is completed
pub stuck_completes : (ns : List ℕ) (p : Progress) (bytes : List ℕ) (k : ℕ) (last : Progress) (v : Tag) → Stuck ns p bytes k last → may_end last ≡ true → is_past (drop k bytes) ≡ true → v ≡ tag_of last → Completes ns p bytes v k
stuck_completes ns p bytes k last v s may past is = record { within = s.within; last = last; run = s.run; tag = sym is; may = may; past = past }

past_byte : (bytes : List ℕ) (k : ℕ) → k < length bytes → is_past (drop k bytes) ≡ false → goes_on (get_or bytes k 0) ≡ true
past_byte bytes k lt e =
    let d : drop k bytes ≡ get_or bytes k 0 ∷ drop (k + 1) bytes = drop_more bytes k 0 lt in
    let P : List ℕ → Type 0 = λ t. is_past t ≡ false in
    not-false (goes_on (get_or bytes k 0)) (subst P d e)

-- where nothing more is read, and a tag may not end, none is
pub stuck_fails : (ns : List ℕ) (p : Progress) (bytes : List ℕ) (k : ℕ) (last : Progress) (e : Refused) → Stuck ns p bytes k last → (may_end last && is_past (drop k bytes)) ≡ false → (k < length bytes → e ≡ Byte k) → (k ≡ length bytes → e ≡ Cut) → Fails ns p bytes e
stuck_fails ns p bytes k last e s no_end byte cut =
    let P : Refused → Type 0 = λ r. Fails ns p bytes r in
    elim (cases_lt k (length bytes)) [
      | inl lt ↦ subst P (sym (byte lt)) (record {
        short = lt;
        last = last;
        run = s.run;
        none = s.none lt;
        on = λ may. past_byte bytes k lt (sym (ap (λ (t : Bool). t && is_past (drop k bytes)) may) ∙ no_end);
      })
      | inr ge ↦
          let all : k ≡ length bytes = omega (arith, s.within) in
          let over : drop k bytes ≡ [] = drop_all k bytes ge in
          subst P (sym (cut all)) (record {
            last = last;
            run = ap (steps ns p) (sym (take_all k bytes ge)) ∙ s.run;
            inside = at_end (may_end last) (ap (λ (t : List ℕ). may_end last && is_past t) (sym over) ∙ no_end);
          })
    ]
  where
    at_end : (t : Bool) → t && true ≡ false → t ≡ false
    at_end true h = h
    at_end false h = refl

-- a tag is completed where the part that is known may end
pub reached_completes : (ns : List ℕ) (p : Progress) (bytes : List ℕ) (k : ℕ) (part : TagPart) (rest : List ℕ) (over : Bool) → (r : Reaches ns p bytes k part) → rest ≡ drop k bytes → over ≡ (may_end r.last && is_past rest) → over ≡ true → Completes ns p bytes (tag_of r.last) k
reached_completes ns p bytes k part rest over r rest_is is t =
    let both = and_parts (may_end r.last) (is_past rest) (sym is ∙ t) in
    stuck_completes ns p bytes k r.last (tag_of r.last) r.stuck both.0 (ap is_past (sym rest_is) ∙ both.1) refl

-- none is where it may not
pub reached_fails : (ns : List ℕ) (p : Progress) (bytes : List ℕ) (k : ℕ) (part : TagPart) (rest : List ℕ) (over : Bool) (e : Refused) → (r : Reaches ns p bytes k part) → rest ≡ drop k bytes → over ≡ (may_end r.last && is_past rest) → over ≡ false → (k < length bytes → e ≡ Byte k) → (k ≡ length bytes → e ≡ Cut) → Fails ns p bytes e
reached_fails ns p bytes k part rest over e r rest_is is t byte cut =
    stuck_fails ns p bytes k r.last e r.stuck (ap (λ (x : List ℕ). may_end r.last && is_past x) (sym rest_is) ∙ sym is ∙ t) byte cut
