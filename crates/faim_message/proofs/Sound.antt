-- Tags that may stand at a message's begin, and how they grow.
use Rattle.std.proofs.Common.{◌≡◌, ℕ, true, false, eqb, ◌⊎◌, List, [], ◌∷◌, ◌++◌, refl, sym, ap, subst, ◌∙◌, append_assoc, inl, inr, arith}
use Rattle.std.specs.List.{list_all}
use Rattle.std.proofs.lemmas.List.{append-nil}
use Rattle.std.proofs.lemmas.Bool.{or_cases, eqb-true, eq-eqb, and_from, and_parts, cases_Bool}
use Rattle.faim_tags.specs.Spelling.{Tag, IsTag}
use Rattle.faim_tags.specs.Reading.{is_among, BeginsTag}
use Rattle.faim_base.specs.Tags.{is_tag_number}
use Rattle.faim_tags.specs.Steps.{InNumber}
use Rattle.faim_tags.proofs.Meaning.{read-begins}
use Rattle.faim_message.specs.declared.form.Form.{Form}
use Rattle.faim_message.specs.Forms.{first_of, permitted}
use Rattle.faim_message.specs.Spelling.{numbers, distinct, EachTag, AreTags}
use Rattle.faim_message.specs.Stages.{open_numbers}
use Rattle.faim_message.proofs.Numbers.{without_among, numbers-append, among_left, among_last, distinct-push, list_all-push, all_at, permitted_listed, first_permitted, open_is}

EachTag-push : (tags : List Tag) (v : Tag) → EachTag tags → IsTag v → EachTag (tags ++ v ∷ [])
EachTag-push [] v e h = (h, tt)
EachTag-push (w ∷ tags) v e h = (e.0, EachTag-push tags v e.1 h)

-- no tags yet, or tags that may stand at a message's begin
abbrev pub MayStand : Form → List Tag → Type 0
MayStand form tags = (tags ≡ []) ⊎ AreTags form tags

first_tag : (form : Form) (v : Tag) → IsTag v → is_among (open_numbers form []) v.no ≡ true → AreTags form (v ∷ [])
first_tag form v h e =
    elim (or_cases (eqb (first_of form) v.no) false e) [
      | inl same ↦
          let is = eqb-true (first_of form) v.no same in
          let P : ℕ → Type 0 = λ n. is_among (permitted form) n ≡ true in
          record { each = (h, tt); apart = refl; allowed = and_from (is_among (permitted form) v.no) true (subst P is (first_permitted form)) refl; led = eq-eqb v.no (first_of form) (sym is) }
      | inr never ↦ absurd (let wrong : false ≡ true = never in cc)
    ]

further_tag : (form : Form) (tags : List Tag) (v : Tag) → AreTags form tags → IsTag v → is_among (open_numbers form tags) v.no ≡ true → AreTags form (tags ++ v ∷ [])
further_tag form [] v a h e = absurd (let wrong : false ≡ true = a.led in cc)
further_tag form (w ∷ tags) v a h e =
    let o = open_is form (w ∷ tags) v.no e in
    let same = numbers-append (w ∷ tags) (v ∷ []) in
    let P : List ℕ → Type 0 = λ ns. distinct ns ≡ true in
    let Q : List ℕ → Type 0 = λ ns. list_all (is_among (permitted form)) ns ≡ true in
    record {
      each = EachTag-push (w ∷ tags) v a.each h;
      apart = subst P (sym same) (distinct-push (numbers (w ∷ tags)) v.no a.apart o.1);
      allowed = subst Q (sym same) (list_all-push (is_among (permitted form)) (numbers (w ∷ tags)) v.no a.allowed o.0);
      led = a.led;
    }

-- one tag more
pub AreTags-push : (form : Form) (tags : List Tag) (v : Tag) → MayStand form tags → IsTag v → is_among (open_numbers form tags) v.no ≡ true → AreTags form (tags ++ v ∷ [])
AreTags-push form tags v m h e =
    elim m [
      | inl none ↦
          let P : List Tag → Type 0 = λ ts. AreTags form (ts ++ v ∷ []) in
          let Q : List Tag → Type 0 = λ ts. is_among (open_numbers form ts) v.no ≡ true in
          subst P (sym none) (first_tag form v h (subst Q none e))
      | inr a ↦ further_tag form tags v a h e
    ]

open_nonempty : (form : Form) (tags : List Tag) (n : ℕ) → AreTags form tags → is_among (permitted form) n ≡ true → is_among (numbers tags) n ≡ false → is_among (open_numbers form tags) n ≡ true
open_nonempty form [] n a e f = absurd (let wrong : false ≡ true = a.led in cc)
open_nonempty form (v ∷ tags) n a e f = without_among (numbers (v ∷ tags)) (permitted form) n e f

-- some tag has each number
pub some_tag : (n : ℕ) → BeginsTag (n ∷ []) [] → (v : Tag) × IsTag v × (v.no ≡ n)
some_tag n b = (b.tag, b.sound, elim (or_cases (eqb n b.tag.no) false b.known) [ inl same ↦ sym (eqb-true n b.tag.no same) | inr never ↦ absurd (let wrong : false ≡ true = never in cc) ])

-- tags can be added until these numbers are there
pub record Grown (form : Form) (tags : List Tag) (wanted : List ℕ) : Type 0 where
  pub more : List Tag
  pub sound : AreTags form (tags ++ more)
  pub there : list_all (is_among (numbers (tags ++ more))) wanted ≡ true

grown_nothing : (form : Form) (tags : List Tag) → AreTags form tags → Grown form tags []
grown_nothing form tags a = let P : List Tag → Type 0 = λ ts. AreTags form ts in record { more = []; sound = subst P (sym (append-nil tags)) a; there = refl }

still_there : (tags more : List Tag) (n : ℕ) → is_among (numbers tags) n ≡ true → is_among (numbers (tags ++ more)) n ≡ true
still_there tags more n e = let P : List ℕ → Type 0 = λ ns. is_among ns n ≡ true in subst P (sym (numbers-append tags more)) (among_left (numbers tags) (numbers more) n e)

pub grow : (form : Form) (tags : List Tag) (wanted : List ℕ) → AreTags form tags → list_all (is_among (permitted form)) wanted ≡ true → Grown form tags wanted
grow form tags [] a e = grown_nothing form tags a
grow form tags (n ∷ wanted) a e =
    let p = and_parts (is_among (permitted form) n) (list_all (is_among (permitted form)) wanted) e in
    elim (cases_Bool (is_among (numbers tags) n)) [
      | inl there ↦
          let g = grow form tags wanted a p.1 in
          record { more = g.more; sound = g.sound; there = and_from (is_among (numbers (tags ++ g.more)) n) (list_all (is_among (numbers (tags ++ g.more))) wanted) (still_there tags g.more n there) g.there }
      | inr absent ↦
          let b = read-begins (n ∷ []) [] (InNumber []) (record { some = omega arith; listed = and_from (is_tag_number n) true (all_at is_tag_number (permitted form) n (permitted_listed form) p.0) refl }) refl in
          let s = some_tag n b in
          let v = s.0 in
          let P : ℕ → Type 0 = λ m. is_among (open_numbers form tags) m ≡ true in
          let a' = AreTags-push form tags v (inr a) s.1 (subst P (sym s.2) (open_nonempty form tags n a p.0 absent)) in
          let g = grow form (tags ++ v ∷ []) wanted a' p.1 in
          let same = append_assoc tags (v ∷ []) g.more in
          let R : List Tag → Type 0 = λ ts. AreTags form ts in
          let Q : List Tag → Type 0 = λ ts. list_all (is_among (numbers ts)) wanted ≡ true in
          let last : is_among (numbers (tags ++ v ∷ [])) n ≡ true = let S : List ℕ → Type 0 = λ ns. is_among ns n ≡ true in subst S (sym (numbers-append tags (v ∷ []) ∙ ap (λ (m : ℕ). numbers tags ++ m ∷ []) s.2)) (among_last (numbers tags) n) in
          let T : List Tag → Type 0 = λ ts. is_among (numbers ts) n ≡ true in
          record {
            more = v ∷ g.more;
            sound = subst R same g.sound;
            there = and_from (is_among (numbers (tags ++ v ∷ g.more)) n) (list_all (is_among (numbers (tags ++ v ∷ g.more))) wanted) (subst T same (still_there (tags ++ v ∷ []) g.more n last)) (subst Q same g.there);
          }
    ]
