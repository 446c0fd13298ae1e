-- At the front of bytes stands a tag, or they are refused, for one reason.
use Rattle.std.proofs.Common.{◌≡◌, ◌≢◌, ◌⊎◌, inl, inr, ℕ, ◌<◌, true, false, not, List, [], ◌∷◌, ◌++◌, length, get_or, take, drop, Option, Some, None, refl, sym, ap, subst, ◌∙◌, arith, length-append, append_assoc}
use Rattle.std.proofs.Math.Seq.{take-append_seam}
use Rattle.std.proofs.lemmas.Bool.{cases_Bool}
use Rattle.std.proofs.lemmas.List.{drop_more, drop_all, take_all}
use Rattle.faim_base.specs.declared.judgement.Refused.{Refused}
use Rattle.faim_base.specs.declared.judgement.Refused.TheVariants.{Byte, Cut, Missing, NoMemory}
use Rattle.faim_tags.specs.Spelling.{Tag}
use Rattle.faim_tags.specs.Reading.{goes_on, is_past, FoundTag, BeginsTag, StopsAt, RefusesTag}
use Rattle.faim_tags.specs.Steps.{Progress, InNumber, step, steps, may_end, tag_of}
use Rattle.faim_tags.proofs.Runs.{steps-then, step-one}
use Rattle.faim_tags.proofs.Meaning.{Numbers, completes-found, barred-stops, halts-cut}

-- a tag is found, or the bytes are refused
abbrev pub IsJudged : List ℕ → List ℕ → Type 0
IsJudged ns bytes = ((v : Tag) × (n : ℕ) × FoundTag ns bytes v n) ⊎ ((e : Refused) × RefusesTag ns bytes e × (e ≢ NoMemory))

-- reading comes to a byte with which it doesn't go on
record IsStuck (ns bytes : List ℕ) : Type 0 where
  place : ℕ
  short : place < length bytes
  last : Progress
  run : steps ns (InNumber []) (take place bytes) ≡ Some last
  none : step ns last (get_or bytes place 0) ≡ None

byte_after : (front rest : List ℕ) (b : ℕ) → get_or (front ++ b ∷ rest) (length front) 0 ≡ b
byte_after [] rest b = refl
byte_after (f ∷ front) rest b = byte_after front rest b

-- reading that doesn't come to the end is stuck somewhere
stuck_after : (ns front rest : List ℕ) (p : Progress) → steps ns (InNumber []) front ≡ Some p → steps ns p rest ≡ None → IsStuck ns (front ++ rest)
stuck_after ns front [] p run none = absurd (let wrong : Some p ≡ None = none in cc)
stuck_after ns front (b ∷ rest) p run none = go (step ns p b) (λ q. stuck_after ns (front ++ b ∷ []) rest q) refl
  where
    go : (o : Option Progress) → ((q : Progress) → steps ns (InNumber []) (front ++ b ∷ []) ≡ Some q → steps ns q rest ≡ None → IsStuck ns ((front ++ b ∷ []) ++ rest)) → step ns p b ≡ o → IsStuck ns (front ++ b ∷ rest)
    go None later e = record {
      place = length front;
      short = omega (arith, length-append front (b ∷ rest));
      last = p;
      run = ap (steps ns (InNumber [])) (take-append_seam front (b ∷ rest)) ∙ run;
      none = ap (step ns p) (byte_after front rest b) ∙ e;
    }
    go (Some q) later e =
        let on : steps ns p (b ∷ []) ≡ Some q = step-one ns p q b [] e in
        let more = later q (steps-then ns (InNumber []) p front (b ∷ []) run ∙ on) (sym (step-one ns p q b rest e) ∙ none) in
        subst (IsStuck ns) (append_assoc front (b ∷ []) rest) more

-- where reading is stuck a tag is over, or the byte is the first with which none goes on
judged_stuck : (ns bytes : List ℕ) → Numbers ns → IsStuck ns bytes → IsJudged ns bytes
judged_stuck ns bytes h s =
    let byte = get_or bytes s.place 0 in
    let stops = λ (on : may_end s.last ≡ true → goes_on byte ≡ true).
    barred-stops ns bytes s.place h (record { short = s.short; last = s.last; run = s.run; none = s.none; on = on }) in
    elim (cases_Bool (goes_on byte)) [
      | inl on ↦ inr (Byte s.place, stops (λ _. on), λ w. absurd cc)
      | inr over ↦ elim (cases_Bool (may_end s.last)) [
        | inl may ↦
            let P : List ℕ → Type 0 = λ t. is_past t ≡ true in
            let past : is_past (drop s.place bytes) ≡ true = subst P (sym (drop_more bytes s.place 0 s.short)) (ap not over) in
            let v = tag_of s.last in
            inl (v, s.place, completes-found ns bytes v s.place h (record { within = omega (arith, s.short); last = s.last; run = s.run; tag = refl; may = may; past = past }))
        | inr inside ↦ inr (Byte s.place, stops (λ may. absurd (let wrong : true ≡ false = sym may ∙ inside in cc)), λ w. absurd cc)
      ]
    ]

-- bytes that are read to their end are a tag, or end inside one
judged_through : (ns bytes : List ℕ) (last : Progress) → Numbers ns → steps ns (InNumber []) bytes ≡ Some last → IsJudged ns bytes
judged_through ns bytes last h run =
    elim (cases_Bool (may_end last)) [
      | inl may ↦
          let whole : take (length bytes) bytes ≡ bytes = take_all (length bytes) bytes (omega arith) in
          let P : List ℕ → Type 0 = λ t. is_past t ≡ true in
          let past : is_past (drop (length bytes) bytes) ≡ true = subst P (sym (drop_all (length bytes) bytes (omega arith))) refl in
          inl (tag_of last, length bytes, completes-found ns bytes (tag_of last) (length bytes) h (record { within = omega arith; last = last; run = ap (steps ns (InNumber [])) whole ∙ run; tag = refl; may = may; past = past }))
      | inr inside ↦ inr (Cut, halts-cut ns bytes h (record { last = last; run = run; inside = inside }), λ w. absurd cc)
    ]

pub each_front : (ns bytes : List ℕ) → Numbers ns → IsJudged ns bytes
each_front ns bytes h = go (steps ns (InNumber []) bytes) refl
  where
    go : (o : Option Progress) → steps ns (InNumber []) bytes ≡ o → IsJudged ns bytes
    go None e = judged_stuck ns bytes h (stuck_after ns [] bytes (InNumber []) refl e)
    go (Some last) e = judged_through ns bytes last h e

-- bytes that stop somewhere don't begin a tag
stops_short : (ns bytes : List ℕ) (p : ℕ) → StopsAt ns bytes p → BeginsTag ns bytes → ⊥
stops_short ns bytes p s b =
    let P : List ℕ → Type 0 = λ t. BeginsTag ns t in
    omega (arith, s.short, s.longest (length bytes) (omega arith) (subst P (sym (take_all (length bytes) bytes (omega arith))) b))

-- they stop at one place
one_place : (ns bytes : List ℕ) (p q : ℕ) → StopsAt ns bytes p → StopsAt ns bytes q → p ≡ q
one_place ns bytes p q s t = omega (arith, s.short, t.short, s.longest q (omega (arith, t.short)) t.begins, t.longest p (omega (arith, s.short)) s.begins)

pub one_reason : (ns bytes : List ℕ) (a b : Refused) → RefusesTag ns bytes a → RefusesTag ns bytes b → (a ≡ b) ⊎ ((a ≡ NoMemory) ⊎ (b ≡ NoMemory))
one_reason ns bytes NoMemory b h k = inr (inl refl)
one_reason ns bytes (Missing n) b h k = absurd h
one_reason ns bytes (Byte p) NoMemory h k = inr (inr refl)
one_reason ns bytes (Byte p) (Missing n) h k = absurd k
one_reason ns bytes (Byte p) (Byte q) h k = inl (ap Byte (one_place ns bytes p q h.0 k.0))
one_reason ns bytes (Byte p) Cut h k = absurd (stops_short ns bytes p h.0 k.0)
one_reason ns bytes Cut NoMemory h k = inr (inr refl)
one_reason ns bytes Cut (Missing n) h k = absurd k
one_reason ns bytes Cut (Byte q) h k = absurd (stops_short ns bytes q k.0 h.0)
one_reason ns bytes Cut Cut h k = inl refl

pub found_unrefused : (ns bytes : List ℕ) (v : Tag) (n : ℕ) (e : Refused) → FoundTag ns bytes v n → RefusesTag ns bytes e → e ≡ NoMemory
found_unrefused ns bytes v n NoMemory f r = refl
found_unrefused ns bytes v n (Missing m) f r = absurd r
found_unrefused ns bytes v n (Byte p) f r = absurd (r.1 v n f)
found_unrefused ns bytes v n Cut f r = absurd (r.1 v n f)
