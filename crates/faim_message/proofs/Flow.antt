-- Reading a message byte by byte: what was read keeps the rules, and some message goes on from it.
use Rattle.std.proofs.Common.{◌≡◌, ℕ, Bool, true, false, ◌⊎◌, List, [], ◌∷◌, ◌++◌, Option, Some, None, refl, sym, ap, subst, ◌∙◌, append_assoc, inl, inr}
use Rattle.std.specs.Prelude.{if◌then◌else◌}
use Rattle.std.proofs.lemmas.List.{append-nil}
use Rattle.std.proofs.lemmas.Bool.{eq-eqb}
use Rattle.faim_base.specs.Tags.{is_tag_number}
use Rattle.faim_tags.specs.Spelling.{Tag, spelling}
use Rattle.faim_tags.specs.Reading.{goes_on}
use Rattle.faim_tags.specs.Steps.{Progress, InNumber, step, steps, may_end, tag_of, read_so_far}
use Rattle.faim_tags.proofs.Goods.{AllListed, IsGood, Takes, step-good, step-number, steps_cases}
use Rattle.faim_tags.proofs.Meaning.{ends-known, end-goes-on}
use Rattle.faim_tags.proofs.Facts.{among_all}
use Rattle.faim_message.specs.declared.form.Form.{Form}
use Rattle.faim_message.specs.declared.so_far.BreakSoFar.{BreakSoFar}
use Rattle.faim_message.specs.declared.so_far.BreakSoFar.TheVariants.{Unknown, Bare, Feed, ReturnFeed}
use Rattle.faim_message.specs.Spelling.{AreTags, leads, joined}
use Rattle.faim_message.specs.Stages.{open_numbers, Stage, Within, Returned, after_tag, next, reads, bytes_between, followed, bytes_so_far}
use Rattle.faim_message.proofs.Numbers.{open_listed}
use Rattle.faim_message.proofs.Sound.{MayStand, AreTags-push}

-- reading on from where some bytes led
abbrev pub onward : Form → Option Stage → List ℕ → Option Stage
onward form None bytes = None
onward form (Some s) bytes = reads form s bytes

pub reads-append : (form : Form) (s : Stage) (a b : List ℕ) → reads form s (a ++ b) ≡ onward form (reads form s a) b
reads-append form s [] b = refl
reads-append form s (x ∷ a) b =
    elim (next form s x) as (λ o. (elim o [ None ↦ None | Some t ↦ reads form t (a ++ b) ]) ≡ onward form (elim o [ None ↦ None | Some t ↦ reads form t a ]) b) [
      | None ↦ refl
      | Some t ↦ reads-append form t a b
    ]

pub reads-then : (form : Form) (s t : Stage) (a b : List ℕ) → reads form s a ≡ Some t → reads form s (a ++ b) ≡ reads form t b
reads-then form s t a b e = reads-append form s a b ∙ ap (λ (o : Option Stage). onward form o b) e

pub reads-one : (form : Form) (s t : Stage) (b : ℕ) (bytes : List ℕ) → next form s b ≡ Some t → reads form s (b ∷ bytes) ≡ reads form t bytes
reads-one form s t b bytes e = ap (λ (o : Option Stage). elim o [ None ↦ None | Some t ↦ reads form t bytes ]) e

pub reads_cases : (form : Form) (o : Option Stage) (bytes : List ℕ) (t : Stage) → (elim o [ None ↦ None | Some s ↦ reads form s bytes ]) ≡ Some t → (s : Stage) × (o ≡ Some s) × (reads form s bytes ≡ Some t)
reads_cases form None bytes t e = absurd cc
reads_cases form (Some s) bytes t e = (s, refl, e)

pub within-some : (form : Form) (tags : List Tag) (so_far : BreakSoFar) (p q : Progress) (b : ℕ) → step (open_numbers form tags) p b ≡ Some q → next form (Within tags so_far p) b ≡ Some (Within tags so_far q)
within-some form tags so_far p q b e = ap (λ (o : Option Progress). elim o [ None ↦ if may_end p then after_tag form (tags ++ tag_of p ∷ []) so_far b else None | Some r ↦ Some (Within tags so_far r) ]) e

-- what is read of a tag is read of the message
pub lift : (form : Form) (tags : List Tag) (so_far : BreakSoFar) (p q : Progress) (bytes : List ℕ) → steps (open_numbers form tags) p bytes ≡ Some q → reads form (Within tags so_far p) bytes ≡ Some (Within tags so_far q)
lift form tags so_far p q [] e = let same : p ≡ q = cc in ap (λ (r : Progress). Some (Within tags so_far r)) same
lift form tags so_far p q (b ∷ bytes) e =
    let c = steps_cases (open_numbers form tags) (step (open_numbers form tags) p b) bytes q e in
    reads-one form (Within tags so_far p) (Within tags so_far c.0) b bytes (within-some form tags so_far p c.0 b c.1) ∙ lift form tags so_far c.0 q bytes c.2

no_step : (ns : List ℕ) (p : Progress) (b : ℕ) (o : Option Progress) → step ns p b ≡ o → may_end p ≡ true → goes_on b ≡ false → o ≡ None
no_step ns p b None e m g = refl
no_step ns p b (Some q) e m g = absurd (let t = end-goes-on ns p b q m e in let wrong : true ≡ false = sym t ∙ g in cc)

pub within-none : (form : Form) (tags : List Tag) (so_far : BreakSoFar) (p : Progress) (b : ℕ) → step (open_numbers form tags) p b ≡ None → next form (Within tags so_far p) b ≡ (if may_end p then after_tag form (tags ++ tag_of p ∷ []) so_far b else None)
within-none form tags so_far p b e = ap (λ (o : Option Progress). elim o [ None ↦ if may_end p then after_tag form (tags ++ tag_of p ∷ []) so_far b else None | Some r ↦ Some (Within tags so_far r) ]) e

-- a byte of no tag after a whole one
pub tag_over : (form : Form) (tags : List Tag) (so_far : BreakSoFar) (p : Progress) (b : ℕ) → may_end p ≡ true → goes_on b ≡ false → next form (Within tags so_far p) b ≡ after_tag form (tags ++ tag_of p ∷ []) so_far b
tag_over form tags so_far p b m g =
    within-none form tags so_far p b (no_step (open_numbers form tags) p b (step (open_numbers form tags) p b) refl m g)
    ∙ ap (λ (t : Bool). if t then after_tag form (tags ++ tag_of p ∷ []) so_far b else None) m

abbrev pub known : BreakSoFar → Bool
known Unknown = false
known Bare = true
known Feed = true
known ReturnFeed = true

-- the whole tags keep the rules; the breaks are known once there are some
abbrev pub Placed : Form → List Tag → BreakSoFar → Type 0
Placed form tags so_far = ((tags ≡ []) × (so_far ≡ Unknown)) ⊎ (AreTags form tags × (known so_far ≡ true))

pub record IsWithin (form : Form) (tags : List Tag) (so_far : BreakSoFar) (p : Progress) : Type 0 where
  pub placed : Placed form tags so_far
  pub part : IsGood (open_numbers form tags) p ⊎ ((p ≡ InNumber []) × AreTags form tags)

abbrev pub IsAt : Form → Stage → Type 0
IsAt form (Within tags so_far p) = IsWithin form tags so_far p
IsAt form (Returned tags) = AreTags form tags

pub may_stand : (form : Form) (tags : List Tag) (so_far : BreakSoFar) → Placed form tags so_far → MayStand form tags
may_stand form tags so_far h = elim h [ inl w ↦ inl w.0 | inr w ↦ inr w.0 ]

pub open_all : (form : Form) (tags : List Tag) → AllListed (open_numbers form tags)
open_all form tags n e = among_all is_tag_number (open_numbers form tags) n (open_listed form tags) e

pub followed-push : (s : List ℕ) (tags : List Tag) (v : Tag) → followed s (tags ++ v ∷ []) ≡ followed s tags ++ (spelling v ++ s)
followed-push s [] v = ap (λ (t : List ℕ). spelling v ++ t) (append-nil s)
followed-push s (w ∷ tags) v =
    ap (λ (t : List ℕ). spelling w ++ (s ++ t)) (followed-push s tags v)
    ∙ sym (append_assoc (spelling w) (s ++ followed s tags) (spelling v ++ s) ∙ ap (λ (t : List ℕ). spelling w ++ t) (append_assoc s (followed s tags) (spelling v ++ s)))

pub joined-push : (s e : List ℕ) (tags : List Tag) (v : Tag) → joined s e (tags ++ v ∷ []) ≡ followed s tags ++ (spelling v ++ e)
joined-push s e [] v = refl
joined-push s e (w ∷ []) v = sym (append_assoc (spelling w) (s ++ []) (spelling v ++ e) ∙ ap (λ (t : List ℕ). spelling w ++ t) (append_assoc s [] (spelling v ++ e)))
joined-push s e (w ∷ u ∷ tags) v =
    ap (λ (t : List ℕ). spelling w ++ (s ++ t)) (joined-push s e (u ∷ tags) v)
    ∙ sym (append_assoc (spelling w) (s ++ followed s (u ∷ tags)) (spelling v ++ e) ∙ ap (λ (t : List ℕ). spelling w ++ t) (append_assoc s (followed s (u ∷ tags)) (spelling v ++ e)))

-- with the same bytes after the last tag
pub joined-followed : (s : List ℕ) (tags : List Tag) → joined s s tags ≡ followed s tags
joined-followed s [] = refl
joined-followed s (v ∷ []) = ap (λ (t : List ℕ). spelling v ++ t) (sym (append-nil s))
joined-followed s (v ∷ w ∷ tags) = ap (λ (t : List ℕ). spelling v ++ (s ++ t)) (joined-followed s (w ∷ tags))

pub followed-append : (s : List ℕ) (a b : List Tag) → followed s (a ++ b) ≡ followed s a ++ followed s b
followed-append s [] b = refl
followed-append s (v ∷ a) b =
    ap (λ (t : List ℕ). spelling v ++ (s ++ t)) (followed-append s a b)
    ∙ sym (append_assoc (spelling v) (s ++ followed s a) (followed s b) ∙ ap (λ (t : List ℕ). spelling v ++ t) (append_assoc s (followed s a) (followed s b)))

-- a CR after the last tag, and then its LF
pub joined-return : (n : ℕ) (tags : List Tag) → leads n tags ≡ true → joined (13 ∷ 10 ∷ []) (13 ∷ []) tags ++ 10 ∷ [] ≡ followed (13 ∷ 10 ∷ []) tags
joined-return n [] e = absurd (let wrong : false ≡ true = e in cc)
joined-return n (v ∷ []) e = append_assoc (spelling v) (13 ∷ []) (10 ∷ [])
joined-return n (v ∷ w ∷ tags) e =
    append_assoc (spelling v) (13 ∷ 10 ∷ joined (13 ∷ 10 ∷ []) (13 ∷ []) (w ∷ tags)) (10 ∷ [])
    ∙ ap (λ (t : List ℕ). spelling v ++ 13 ∷ 10 ∷ t) (joined-return w.no (w ∷ tags) (eq-eqb w.no w.no refl))

-- a byte is read, and what was read keeps the rules
abbrev pub Reads : Form → Stage → ℕ → Stage → Type 0
Reads form s b t = IsAt form t × (bytes_so_far t ≡ bytes_so_far s ++ b ∷ [])

pub reads_part : (form : Form) (tags : List Tag) (so_far : BreakSoFar) (p q : Progress) (b : ℕ) → IsWithin form tags so_far p → step (open_numbers form tags) p b ≡ Some q → Reads form (Within tags so_far p) b (Within tags so_far q)
reads_part form tags so_far p q b h e =
    let t : Takes (open_numbers form tags) p b q = elim h.part [
      | inl good ↦ step-good (open_numbers form tags) p b q (open_all form tags) good e
      | inr at ↦
          let P : Progress → Type 0 = λ r. step (open_numbers form tags) r b ≡ Some q in
          let Q : Progress → Type 0 = λ r. Takes (open_numbers form tags) r b q in
          subst Q (sym at.0) (step-number (open_numbers form tags) [] b q (open_all form tags) (subst P at.0 e))
    ] in
    (record { placed = h.placed; part = inl t.0 }, ap (λ (x : List ℕ). followed (bytes_between so_far) tags ++ x) t.1 ∙ sym (append_assoc (followed (bytes_between so_far) tags) (read_so_far p) (b ∷ [])))

-- what is known where a tag ends
pub record TagEnds (form : Form) (tags : List Tag) (p : Progress) : Type 0 where
  pub sound : AreTags form (tags ++ tag_of p ∷ [])
  pub is : spelling (tag_of p) ≡ read_so_far p

pub tag_ends : (form : Form) (tags : List Tag) (so_far : BreakSoFar) (p : Progress) → IsWithin form tags so_far p → may_end p ≡ true → TagEnds form tags p
tag_ends form tags so_far p h m =
    elim h.part [
      | inl good ↦
          let k = ends-known (open_numbers form tags) p good m in
          record { sound = AreTags-push form tags (tag_of p) (may_stand form tags so_far h.placed) k.0 k.2; is = k.1 }
      | inr at ↦ let P : Progress → Type 0 = λ r. may_end r ≡ true in absurd (let wrong : false ≡ true = subst P at.0 m in cc)
    ]

pub feed_bytes : (s f : List ℕ) (tags : List Tag) (v : Tag) (r : List ℕ) (b : ℕ) → followed f tags ≡ followed s tags → s ≡ b ∷ [] → spelling v ≡ r → followed s (tags ++ v ∷ []) ++ [] ≡ followed f tags ++ r ++ b ∷ []
feed_bytes s f tags v r b same is e =
    append-nil (followed s (tags ++ v ∷ [])) ∙ followed-push s tags v ∙ ap (λ (t : List ℕ). followed s tags ++ (spelling v ++ t)) is
    ∙ ap (λ (t : List ℕ). followed s tags ++ (t ++ b ∷ [])) e ∙ sym (append_assoc (followed s tags) r (b ∷ []))
    ∙ ap (λ (t : List ℕ). t ++ r ++ b ∷ []) (sym same)

-- with no tags nothing stands between them
pub same_front : (form : Form) (tags : List Tag) (so_far : BreakSoFar) (s : List ℕ) → Placed form tags so_far → known so_far ≡ false → followed (bytes_between so_far) tags ≡ followed s tags
same_front form tags so_far s h e =
    elim h [
      | inl w ↦ let P : List Tag → Type 0 = λ ts. followed (bytes_between so_far) ts ≡ followed s ts in subst P (sym w.0) refl
      | inr w ↦ absurd (let wrong : true ≡ false = sym w.1 ∙ e in cc)
    ]
