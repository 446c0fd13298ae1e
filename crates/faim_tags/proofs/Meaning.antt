-- What the steps say of tags: what is read begins a tag, what begins a tag is read, and a front is one tag at most.
use Rattle.std.proofs.Common.{◌≡◌, ℕ, ◌+◌, ◌<◌, ◌≤◌, Bool, true, false, cond, ltb, eqb, ◌&&◌, List, [], ◌∷◌, ◌++◌, length, get_or, take, drop, Option, Some, None, refl, sym, ap, subst, ◌∙◌, arith, inl, inr}
use Rattle.std.specs.Prelude.{is_some}
use Rattle.std.specs.List.{list_all, list_any}
use Rattle.std.proofs.lemmas.Bool.{cases_lt, and_parts, or_left, or_right, eq-eqb, not-true, both_ways}
use Rattle.std.proofs.lemmas.List.{drop_more, drop_all, take_all, take-take, take_more, take-append-drop}
use Rattle.faim_base.specs.Tags.{is_tag_number, tag_numbers}
use Rattle.faim_base.specs.Text.{is_text_byte}
use Rattle.faim_base.specs.declared.judgement.Refused.{Refused}
use Rattle.faim_base.specs.declared.judgement.Refused.TheVariants.{Byte, Cut, Missing, NoMemory}
use Rattle.faim_tags.specs.Layouts.{classes, maxima, is_of_class}
use Rattle.faim_tags.specs.Spelling.{Tag, IsTag, SpellsTag, braced, spelling}
use Rattle.faim_tags.specs.Reading.{is_among, goes_on, is_past, FoundTag, BeginsTag, StopsAt, NoTag, RefusesTag}
use Rattle.faim_tags.specs.Steps.{Progress, InNumber, Inside, step, steps, may_end, tag_of, read_so_far, Completes, BarredAt, Halts, Fails}
use Rattle.faim_tags.proofs.Facts.{among_all}
use Rattle.faim_tags.proofs.Runs.{onward, steps-append, steps-then}
use Rattle.faim_tags.proofs.Goods.{AllListed, IsFront, IsGood, inside_cases, steps_cases, steps-good}
use Rattle.faim_tags.proofs.Ends.{ends, good-begins, EndsAs, spelling-ends}

-- there are numbers, each of a tag
pub record Numbers (ns : List ℕ) : Type 0 where
  pub some : 0 < length ns
  pub listed : list_all is_tag_number ns ≡ true

pub all_listed : (ns : List ℕ) → Numbers ns → AllListed ns
all_listed ns h n e = among_all is_tag_number ns n h.listed e

eqb_same : (n : ℕ) → eqb n n ≡ true
eqb_same n = eq-eqb n n refl

-- nothing is a front
pub start : (ns : List ℕ) → Numbers ns → IsFront ns []
start [] h = absurd (omega (arith, h.some))
start (n ∷ ns) h = record { number = n; known = or_left (eqb n n) (list_any (λ m. eqb m n) ns) (eqb_same n); rest = braced n; whole = refl; more = omega arith }

-- what is read begins a tag
pub read-begins : (ns bytes : List ℕ) (p : Progress) → Numbers ns → steps ns (InNumber []) bytes ≡ Some p → BeginsTag ns bytes
read-begins ns bytes p h e =
    let g = steps-good ns (InNumber []) bytes p (all_listed ns h) (start ns h) e in
    let P : List ℕ → Type 0 = λ t. BeginsTag ns t in
    subst P g.1 (good-begins ns p (all_listed ns h) g.0)

somewhere : (ns bytes : List ℕ) (o : Option Progress) (q : Progress) → onward ns o bytes ≡ Some q → (p : Progress) × (o ≡ Some p)
somewhere ns bytes None q e = absurd cc
somewhere ns bytes (Some p) q e = (p, refl)

-- a front of what is read is read
pub front-read : (ns : List ℕ) (p : Progress) (a b : List ℕ) (q : Progress) → steps ns p (a ++ b) ≡ Some q → (r : Progress) × (steps ns p a ≡ Some r)
front-read ns p a b q e = somewhere ns b (steps ns p a) q (sym (steps-append ns p a b) ∙ e)

-- what begins a tag is read
pub begins-read : (ns bytes : List ℕ) → BeginsTag ns bytes → (p : Progress) × (steps ns (InNumber []) bytes ≡ Some p)
begins-read ns bytes h =
    let w = spelling-ends ns h.tag h.sound h.known in
    front-read ns (InNumber []) bytes h.rest w.last (ap (steps ns (InNumber [])) (sym h.goes) ∙ w.run)

-- a tag that is over at a place is what was read up to there
pub found-ends : (ns bytes : List ℕ) (v : Tag) (n : ℕ) → FoundTag ns bytes v n → EndsAs ns (InNumber []) (take n bytes) v
found-ends ns bytes v n h =
    let P : List ℕ → Type 0 = λ t. EndsAs ns (InNumber []) t v in
    subst P (sym h.tag.spelled) (spelling-ends ns v h.tag.sound h.known)

-- after the end of a tag only a byte that goes on is read
pub end-goes-on : (ns : List ℕ) (p : Progress) (b : ℕ) (q : Progress) → may_end p ≡ true → step ns p b ≡ Some q → goes_on b ≡ true
end-goes-on ns (InNumber given) b q m e = absurd (let no_end : false ≡ true = m in cc)
end-goes-on ns (Inside n fixed stars part) b q m e =
    elim (inside_cases (ltb (length fixed) (length (classes n))) (is_of_class (get_or (classes n) (length fixed) 0) b) (eqb b 42) (ltb (length stars) (length (maxima n))) (is_text_byte b && ltb (length part) (get_or (maxima n) (length stars) 0)) (Inside n (fixed ++ b ∷ []) stars part) (Inside n fixed (stars ++ part ∷ []) []) (Inside n fixed stars (part ++ b ∷ [])) q e) [
      | inl w ↦ absurd (early (ltb (length fixed) (length (classes n))) _ w.0 m)
      | inr (inl w) ↦ or_right (is_text_byte b) (eqb b 42) w.1
      | inr (inr w) ↦ or_left (is_text_byte b) (eqb b 42) (and_parts (is_text_byte b) (ltb (length part) (get_or (maxima n) (length stars) 0)) w.2).0
    ]
  where
    early : (l x : Bool) → l ≡ true → cond l false x ≡ true → ⊥
    early true x e m = absurd cc
    early false x e m = absurd cc

pub take_split : (bytes : List ℕ) (k p : ℕ) → k ≤ p → take p bytes ≡ take k bytes ++ drop k (take p bytes)
take_split bytes k p le = sym (take-append-drop k (take p bytes)) ∙ ap (λ (t : List ℕ). t ++ drop k (take p bytes)) (take-take k p bytes le)

pub is_past-at : (bytes : List ℕ) (n : ℕ) → n < length bytes → is_past (drop n bytes) ≡ true → goes_on (get_or bytes n 0) ≡ true → ⊥
is_past-at bytes n lt e g =
    let d : drop n bytes ≡ get_or bytes n 0 ∷ drop (n + 1) bytes = drop_more bytes n 0 lt in
    let P : List ℕ → Type 0 = λ t. is_past t ≡ true in
    both_ways (goes_on (get_or bytes n 0)) (not-true (goes_on (get_or bytes n 0)) (subst P d e)) g

-- reading doesn't go past the end of a tag
no_further : (ns bytes : List ℕ) (v : Tag) (n : ℕ) → FoundTag ns bytes v n → n < length bytes → (q : Progress) → steps ns (InNumber []) (take (n + 1) bytes) ≡ Some q → ⊥
no_further ns bytes v n h lt q e =
    let w = found-ends ns bytes v n h in
    let b = get_or bytes n 0 in
    let more : steps ns w.last (b ∷ []) ≡ Some q = sym (steps-then ns (InNumber []) w.last (take n bytes) (b ∷ []) w.run) ∙ ap (steps ns (InNumber [])) (sym (take_more bytes n 0 lt)) ∙ e in
    let c = steps_cases ns (step ns w.last b) [] q more in
    is_past-at bytes n lt h.past (end-goes-on ns w.last b c.0 w.may c.1)

-- a tag that is found ends where reading comes to, if not after
pub found_at : (ns bytes : List ℕ) (v : Tag) (n p : ℕ) (q : Progress) → FoundTag ns bytes v n → n ≤ p → p ≤ length bytes → steps ns (InNumber []) (take p bytes) ≡ Some q → n ≡ p
found_at ns bytes v n p q h le within e =
    elim (cases_lt n p) [
      | inl lt ↦
          let r = front-read ns (InNumber []) (take (n + 1) bytes) (drop (n + 1) (take p bytes)) q (ap (steps ns (InNumber [])) (sym (take_split bytes (n + 1) p (omega arith))) ∙ e) in
          absurd (no_further ns bytes v n h (omega arith) r.0 r.1)
      | inr ge ↦ omega arith
    ]

pub same_some : {X : Type 0} (x y : X) (o : Option X) → o ≡ Some x → o ≡ Some y → x ≡ y
same_some x y o e f = cc

-- a front is one tag at most
pub found-one : (ns bytes : List ℕ) (v w : Tag) (n m : ℕ) → FoundTag ns bytes v n → FoundTag ns bytes w m → (v ≡ w) × (n ≡ m)
found-one ns bytes v w n m h k =
    let a = found-ends ns bytes v n h in
    let b = found-ends ns bytes w m k in
    let same : n ≡ m = elim (cases_lt n m) [
      | inl lt ↦ found_at ns bytes v n m b.last h (omega arith) k.within b.run
      | inr ge ↦ sym (found_at ns bytes w m n a.last k ge h.within a.run)
    ] in
    let last : a.last ≡ b.last = same_some a.last b.last (steps ns (InNumber []) (take n bytes)) a.run (ap (λ (j : ℕ). steps ns (InNumber []) (take j bytes)) same ∙ b.run) in
    (sym a.tag ∙ ap tag_of last ∙ b.tag, same)

tag_no : (n : ℕ) (fixed : List ℕ) (stars : List (List ℕ)) (part : List ℕ) → (tag_of (Inside n fixed stars part)).no ≡ n
tag_no n fixed stars [] = refl
tag_no n fixed stars (x ∷ part) = refl

pub ends-known : (ns : List ℕ) (p : Progress) → IsGood ns p → may_end p ≡ true → IsTag (tag_of p) × (spelling (tag_of p) ≡ read_so_far p) × (is_among ns (tag_of p).no ≡ true)
ends-known ns (InNumber given) h m = absurd (let no_end : false ≡ true = m in cc)
ends-known ns (Inside n fixed stars part) h m =
    let w = ends ns n fixed stars part h m in
    let P : ℕ → Type 0 = λ j. is_among ns j ≡ true in
    (w.0, w.1, subst P (sym (tag_no n fixed stars part)) h.known)

-- a tag that was completed is found
pub completes-found : (ns bytes : List ℕ) (v : Tag) (k : ℕ) → Numbers ns → Completes ns (InNumber []) bytes v k → FoundTag ns bytes v k
completes-found ns bytes v k h c =
    let g = steps-good ns (InNumber []) (take k bytes) c.last (all_listed ns h) (start ns h) c.run in
    let w = ends-known ns c.last g.0 c.may in
    let P : Tag → Type 0 = λ t. IsTag t × (spelling t ≡ read_so_far c.last) × (is_among ns t.no ≡ true) in
    let f = subst P c.tag w in
    record { within = c.within; tag = record { sound = f.0; spelled = sym (f.1 ∙ g.1) }; known = f.2; past = c.past }

stuck_there : (ns bytes : List ℕ) (k : ℕ) (p : Progress) → k < length bytes → steps ns (InNumber []) (take k bytes) ≡ Some p → step ns p (get_or bytes k 0) ≡ None → (j : ℕ) (q : Progress) → k < j → steps ns (InNumber []) (take j bytes) ≡ Some q → ⊥
stuck_there ns bytes k p lt e none j q l run =
    let r = front-read ns (InNumber []) (take (k + 1) bytes) (drop (k + 1) (take j bytes)) q (ap (steps ns (InNumber [])) (sym (take_split bytes (k + 1) j (omega arith))) ∙ run) in
    let b = get_or bytes k 0 in
    let more : steps ns p (b ∷ []) ≡ Some r.0 = sym (steps-then ns (InNumber []) p (take k bytes) (b ∷ []) e) ∙ ap (steps ns (InNumber [])) (sym (take_more bytes k 0 lt)) ∙ r.1 in
    let c = steps_cases ns (step ns p b) [] r.0 more in
    let wrong : None ≡ Some c.0 = sym none ∙ c.1 in
    absurd cc

-- the first byte with which no tag goes on
pub barred-stops : (ns bytes : List ℕ) (k : ℕ) → Numbers ns → BarredAt ns (InNumber []) bytes k → StopsAt ns bytes k × NoTag ns bytes
barred-stops ns bytes k h b = (
  record {
    short = b.short;
    begins = read-begins ns (take k bytes) b.last h b.run;
    longest = λ j le t. let r = begins-read ns (take j bytes) t in elim (cases_lt k j) [ inl l ↦ absurd (stuck_there ns bytes k b.last b.short b.run b.none j r.0 l r.1) | inr ge ↦ ge ];
  },
  λ v n f. let w = found-ends ns bytes v n f in
      elim (cases_lt k n) [
        | inl l ↦ stuck_there ns bytes k b.last b.short b.run b.none n w.last l w.run
        | inr ge ↦
            let at : n ≡ k = found_at ns bytes v n k b.last f ge (omega (arith, b.short)) b.run in
            let last : w.last ≡ b.last = same_some w.last b.last (steps ns (InNumber []) (take n bytes)) w.run (ap (λ (j : ℕ). steps ns (InNumber []) (take j bytes)) at ∙ b.run) in
            let P : ℕ → Type 0 = λ j. is_past (drop j bytes) ≡ true in
            is_past-at bytes k b.short (subst P at f.past) (b.on (ap may_end (sym last) ∙ w.may))
      ],
)

-- an end inside a tag
pub halts-cut : (ns bytes : List ℕ) → Numbers ns → Halts ns (InNumber []) bytes → BeginsTag ns bytes × NoTag ns bytes
halts-cut ns bytes h c = (
  read-begins ns bytes c.last h c.run,
  λ v n f. let w = found-ends ns bytes v n f in
      let whole : take (length bytes) bytes ≡ bytes = take_all (length bytes) bytes (omega arith) in
      let run : steps ns (InNumber []) (take (length bytes) bytes) ≡ Some c.last = ap (steps ns (InNumber [])) whole ∙ c.run in
      let at : n ≡ length bytes = found_at ns bytes v n (length bytes) c.last f f.within (omega arith) run in
      let last : w.last ≡ c.last = same_some w.last c.last (steps ns (InNumber []) (take n bytes)) w.run (ap (λ (j : ℕ). steps ns (InNumber []) (take j bytes)) at ∙ run) in
      both_ways (may_end c.last) c.inside (ap may_end (sym last) ∙ w.may),
)

pub fails-refuses : (ns bytes : List ℕ) (e : Refused) → Numbers ns → Fails ns (InNumber []) bytes e → RefusesTag ns bytes e
fails-refuses ns bytes (Byte k) h f = barred-stops ns bytes k h f
fails-refuses ns bytes Cut h f = halts-cut ns bytes h f
fails-refuses ns bytes (Missing n) h f = f
fails-refuses ns bytes NoMemory h f = tt

-- a spelling has one tag
pub one_tag : (v w : Tag) (bytes : List ℕ) → SpellsTag v bytes → SpellsTag w bytes → v ≡ w
one_tag v w bytes h k =
    let all : (t : Tag) → SpellsTag t bytes → FoundTag tag_numbers bytes t (length bytes) = λ t s.
    let P : List ℕ → Type 0 = λ x. SpellsTag t x in
    let Q : List ℕ → Type 0 = λ x. is_past x ≡ true in
    record {
      within = omega arith;
      tag = subst P (sym (take_all (length bytes) bytes (omega arith))) s;
      known = s.sound.listed;
      past = subst Q (sym (drop_all (length bytes) bytes (omega arith))) refl;
    } in
    (found-one tag_numbers bytes v w (length bytes) (length bytes) (all v h) (all w k)).0

some_is : (o : Option Progress) → is_some o ≡ true → (p : Progress) × (o ≡ Some p)
some_is None e = absurd (let wrong : false ≡ true = e in cc)
some_is (Some p) e = (p, refl)

pub some-begins : (ns bytes : List ℕ) → 0 < length ns → list_all is_tag_number ns ≡ true → is_some (steps ns (InNumber []) bytes) ≡ true → BeginsTag ns bytes
some-begins ns bytes s l e = let r = some_is (steps ns (InNumber []) bytes) e in read-begins ns bytes r.0 (record { some = s; listed = l }) r.1

pub begins-some : (ns bytes : List ℕ) → BeginsTag ns bytes → is_some (steps ns (InNumber []) bytes) ≡ true
begins-some ns bytes h = let r = begins-read ns bytes h in ap is_some r.1

pub same_found : (ns bytes : List ℕ) (v w : Tag) (n m : ℕ) → FoundTag ns bytes v n → w ≡ v → m ≡ n → FoundTag ns bytes w m
same_found ns bytes v w n m f tag size =
    let P : Tag → Type 0 = λ t. FoundTag ns bytes t m in
    let Q : ℕ → Type 0 = λ k. FoundTag ns bytes v k in
    subst P (sym tag) (subst Q (sym size) f)
