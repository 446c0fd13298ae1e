-- A message with another mark: its head is the same, and it fails the same edits where the table allows both marks or neither.
use Rattle.std.proofs.Common.{◌≡◌, refl, sym, ◌∙◌, ap, subst, ℕ, zero, suc, ◌<◌, ◌≤◌, ◌==◌, Bool, true, false, not, cond, set, get_or, List, [], ◌∷◌, take, drop, length, Some, option_map, arith}
use Rattle.std.specs.Prelude.{codes, bytes_eq, Result, Ok}
use Rattle.std.specs.List.{find, AllByRecursion}
use Rattle.std.proofs.lemmas.Bool.{eqb-true}
use Rattle.std.proofs.lemmas.List.{get_or-set_other, get_or-set_same}
use Rattle.faim_base.specs.Digits.{number_of}
use Rattle.faim_base.specs.Ids.{◌>>=◌, read_imad}
use Rattle.faim_base.specs.declared.ids.IdFault.{IdFault}
use Rattle.faim_base.specs.declared.judgement.Head.{Head}
use Rattle.faim_tags.specs.Reading.{is_among}
use Rattle.faim_tags.specs.Spelling.{Tag}
use Rattle.faim_message.specs.declared.form.Form.{Form}
use Rattle.faim_message.specs.declared.form.Breaks.{Breaks}
use Rattle.faim_message.specs.Spelling.{Content, leads, with_first_byte}
use Rattle.faim_message.specs.Heads.{fixed_in, head_in}
use Rattle.faim_message.specs.Edits.{Edit, edits, first_failed}

-- what is set twice is set once
pub set_twice : (xs : List ℕ) (i a b : ℕ) → set (set xs i a) i b ≡ set xs i b
set_twice [] i a b = refl
set_twice (x ∷ xs) zero a b = refl
set_twice (x ∷ xs) (suc i) a b = ap (λ (ys : List ℕ). x ∷ ys) (set_twice xs i a b)

-- bytes before the one that is set stay
take_set : (xs : List ℕ) (n i b : ℕ) → n ≤ i → take n (set xs i b) ≡ take n xs
take_set xs zero i b below = refl
take_set [] (suc n) i b below = refl
take_set (x ∷ xs) (suc n) zero b below = absurd (omega arith)
take_set (x ∷ xs) (suc n) (suc i) b below = ap (λ (ys : List ℕ). x ∷ ys) (take_set xs n i b (omega arith))

-- a tag that isn't the first keeps its fixed elements
fixed_stays : (tags : List Tag) (place b n : ℕ) → leads 1500 tags ≡ true → (1500 == n) ≡ false → fixed_in (with_first_byte tags place b) n ≡ fixed_in tags n
fixed_stays [] place b n led other = refl
fixed_stays (v ∷ tags) place b n led other =
    let apart : (v.no == n) ≡ false = subst (λ (k : ℕ). (k == n) ≡ false) (sym (eqb-true v.no 1500 led)) other in
    rw apart refl

-- the head by the fixed elements of its six tags
abbrev head_by : List ℕ → List ℕ → List ℕ → List ℕ → List ℕ → List ℕ → Result Head IdFault
head_by id kinds amount sender receiver code =
    read_imad id >>= λ imad.
    Ok (record {
      imad = imad;
      sender = sender;
      receiver = receiver;
      code = code;
      kind = number_of (take 2 kinds);
      sub = number_of (drop 2 kinds);
      amount = number_of amount;
    })

pub head_stays : (tags : List Tag) (place b : ℕ) → leads 1500 tags ≡ true → head_in (with_first_byte tags place b) ≡ head_in tags
head_stays tags place b led = λ i. head_by
    (fixed_stays tags place b 1520 led refl i) (fixed_stays tags place b 1510 led refl i) (fixed_stays tags place b 2000 led refl i)
    (fixed_stays tags place b 3100 led refl i) (fixed_stays tags place b 3400 led refl i) (fixed_stays tags place b 3600 led refl i)

-- tests that agree on each item find the same one
find_same : {A : Type 0} (p q : A → Bool) (xs : List A) → AllByRecursion (λ x. p x ≡ q x) xs → find p xs ≡ find q xs
find_same p q [] agree = refl
find_same p q (x ∷ xs) agree = λ i. cond (agree.0 i) (Some x) (find_same p q xs agree.1 i)

-- a message by its first tag's fixed elements
abbrev begun_by : Form → Breaks → List (List ℕ) → Bool → List Tag → List ℕ → Content
begun_by form breaks stars closed rest fixed = record {
  form = form;
  breaks = breaks;
  tags = record { no = 1500; fixed = fixed; stars = stars; closed = closed } ∷ rest;
}

-- version, code of test or production, and whether the mark is one that the table allows: of the first tag the edits see no more
edits_see : (env : ℕ) (form : Form) (breaks : Breaks) (stars : List (List ℕ)) (closed : Bool) (rest : List Tag) (a b : List ℕ)
    → take 2 a ≡ take 2 b → get_or a 10 0 ≡ get_or b 10 0 → is_among (codes " P") (get_or a 11 0) ≡ is_among (codes " P") (get_or b 11 0)
    → first_failed env (begun_by form breaks stars closed rest a) ≡ first_failed env (begun_by form breaks stars closed rest b)
edits_see env form breaks stars closed rest a b versions codes_same marks =
    let m = begun_by form breaks stars closed rest a in
    let w = begun_by form breaks stars closed rest b in
    ap (option_map (λ (e : Edit). e.number)) (find_same (λ (e : Edit). not (e.holds m)) (λ (e : Edit). not (e.holds w)) (edits env) (
      λ i. not (bytes_eq (versions i) (codes "30")),
      (
        λ i. not (codes_same i == env),
        (
          λ i. not (marks i),
          (refl, (refl, (refl, (refl, (refl, (refl, (refl, (refl, (refl, (refl, (refl, (refl, (refl, (refl, tt)))))))))))))),
        ),
      ),
    ))

pub edits_stay : (env : ℕ) (form : Form) (breaks : Breaks) (v : Tag) (rest : List Tag) (k : ℕ) → leads 1500 (v ∷ rest) ≡ true → 11 < length v.fixed
    → is_among (codes " P") k ≡ is_among (codes " P") (get_or v.fixed 11 0)
    → first_failed env (record { form = form; breaks = breaks; tags = with_first_byte (v ∷ rest) 11 k })
    ≡ first_failed env (record { form = form; breaks = breaks; tags = v ∷ rest })
edits_stay env form breaks v rest k led long marks =
    let first : v.no ≡ 1500 = eqb-true v.no 1500 led in
    let own : is_among (codes " P") (get_or (set v.fixed 11 k) 11 0) ≡ is_among (codes " P") (get_or v.fixed 11 0) =
    ap (is_among (codes " P")) (get_or-set_same v.fixed 11 k 0 long) ∙ marks in
    (λ i. first_failed env (record { form = form; breaks = breaks; tags = record v { no = first i; fixed = set v.fixed 11 k } ∷ rest }))
    ∙ edits_see env form breaks v.stars v.closed rest (set v.fixed 11 k) v.fixed (take_set v.fixed 2 11 k (omega arith))
    (get_or-set_other v.fixed 11 10 k 0 (λ same. absurd (omega (arith, same)))) own
    ∙ (λ i. first_failed env (record { form = form; breaks = breaks; tags = record v { no = sym first i } ∷ rest }))
