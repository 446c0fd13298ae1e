-- Cutting tags off the front of bytes that end whole.
use Rattle.std.proofs.Common.{◌≡◌, ℕ, ◌+◌, ◌<◌, ◌≤◌, Bool, true, false, eqb, not, ◌&&◌, List, [], ◌∷◌, ◌++◌, length, get_or, drop, refl, sym, ap, subst, ◌∙◌, append_assoc, length-append, arith}
use Rattle.std.specs.Prelude.{◌==◌}
use Rattle.std.specs.List.{list_all}
use Rattle.std.proofs.lemmas.Bool.{and_parts, eq-eqb}
use Rattle.std.proofs.lemmas.List.{append-nil, drop_more, drop_all, drop-drop, length-drop}
use Rattle.std.proofs.Math.Seq.{take-append_seam, drop-append_seam}
use Rattle.faim_base.specs.Tags.{tag_numbers}
use Rattle.faim_tags.specs.Spelling.{Tag, IsTag, spelling}
use Rattle.faim_tags.specs.Reading.{is_past, FoundTag}
use Rattle.faim_tags.specs.Cutting.{TagInFront}
use Rattle.faim_message.specs.declared.form.Form.{Form}
use Rattle.faim_message.specs.declared.form.Breaks.{Breaks}
use Rattle.faim_message.specs.declared.form.Breaks.TheVariants.{Joined, Lf, CrLf}
use Rattle.faim_message.specs.Forms.{between, ending}
use Rattle.faim_message.specs.Spelling.{EachTag, joined}
use Rattle.faim_message.specs.Refusal.{EndsWhole}
use Rattle.faim_message.specs.Cutting.{Rest}

abbrev pub quiet_bytes : List ℕ → Bool
quiet_bytes bytes = list_all (λ b. not (b == 123)) bytes

-- the bytes of the tags and their breaks
abbrev pub spelled : Breaks → List Tag → List ℕ
spelled breaks more = joined (between breaks) (ending breaks) more

-- the break after a tag
abbrev pub gap_before : Breaks → List Tag → List ℕ
gap_before breaks [] = ending breaks
gap_before breaks (v ∷ more) = between breaks

quiet_gap : (breaks : Breaks) (more : List Tag) → quiet_bytes (gap_before breaks more) ≡ true
quiet_gap Joined [] = refl
quiet_gap Joined (v ∷ more) = refl
quiet_gap (Lf true) [] = refl
quiet_gap (Lf false) [] = refl
quiet_gap (Lf last) (v ∷ more) = refl
quiet_gap (CrLf true) [] = refl
quiet_gap (CrLf false) [] = refl
quiet_gap (CrLf last) (v ∷ more) = refl

-- after a tag comes no byte that goes on with it
past_gap : (breaks : Breaks) (more : List Tag) → is_past (gap_before breaks more ++ spelled breaks more) ≡ true
past_gap Joined [] = refl
past_gap Joined (v ∷ []) = refl
past_gap Joined (v ∷ w ∷ more) = refl
past_gap (Lf true) [] = refl
past_gap (Lf false) [] = refl
past_gap (Lf last) (v ∷ more) = refl
past_gap (CrLf true) [] = refl
past_gap (CrLf false) [] = refl
past_gap (CrLf last) (v ∷ more) = refl

-- a tag, the break after it, and the others
tag_first : (breaks : Breaks) (v : Tag) (more : List Tag) → spelled breaks (v ∷ more) ≡ spelling v ++ (gap_before breaks more ++ spelled breaks more)
tag_first breaks v [] = ap (λ (e : List ℕ). spelling v ++ e) (sym (append-nil (ending breaks)))
tag_first breaks v (w ∷ more) = refl

-- nothing is cut off yet
pub all_left : (form : Form) (bytes : List ℕ) (end : EndsWhole form bytes) → Rest end.breaks end.tags [] bytes 0
all_left form bytes end = record { within = omega arith; more = end.tags; gap = []; all = refl; left = end.whole; quiet = refl; each = end.sound.each }

-- a byte of a break
pub over_byte : (breaks : Breaks) (whole tags : List Tag) (bytes : List ℕ) (place : ℕ) → place < length bytes → (get_or bytes place 0 ≡ 123 → ⊥) → Rest breaks whole tags bytes place → Rest breaks whole tags bytes (place + 1)
over_byte breaks whole tags bytes place lt other r = go r.gap r.more r.all r.quiet r.each (sym (drop_more bytes place 0 lt) ∙ r.left)
  where
    x : ℕ
    x = get_or bytes place 0

    go : (gap : List ℕ) (more : List Tag) → tags ++ more ≡ whole → quiet_bytes gap ≡ true → EachTag more → x ∷ drop (place + 1) bytes ≡ gap ++ spelled breaks more → Rest breaks whole tags bytes (place + 1)
    go [] [] all quiet each e = absurd cc
    go [] (v ∷ more) all quiet each e =
        let here : x ≡ 123 = ap (λ (l : List ℕ). get_or l 0 0) (e ∙ tag_first breaks v more) in
        absurd (other here)
    go (y ∷ gap) more all quiet each e =
        record { within = omega arith; more = more; gap = gap; all = all; left = ap (drop 1) e; quiet = (and_parts (not (eqb y 123)) (quiet_bytes gap) quiet).1; each = each }

-- the tag that stands at a place
record Next (breaks : Breaks) (whole tags : List Tag) (bytes : List ℕ) (place : ℕ) : Type 0 where
  tag : Tag
  found : FoundTag tag_numbers (drop place bytes) tag (length (spelling tag))
  rest : Rest breaks whole (tags ++ tag ∷ []) bytes (place + length (spelling tag))

found_first : (v : Tag) (rest : List ℕ) → IsTag v → is_past rest ≡ true → FoundTag tag_numbers (spelling v ++ rest) v (length (spelling v))
found_first v rest h past =
    let P : List ℕ → Type 0 = λ l. is_past l ≡ true in
    record {
      within = omega (arith, length-append (spelling v) rest);
      tag = record { sound = h; spelled = take-append_seam (spelling v) rest };
      known = h.listed;
      past = subst P (sym (drop-append_seam (spelling v) rest)) past;
    }

next_at : (breaks : Breaks) (whole tags : List Tag) (bytes : List ℕ) (place : ℕ) → place < length bytes → get_or bytes place 0 ≡ 123 → Rest breaks whole tags bytes place → Next breaks whole tags bytes place
next_at breaks whole tags bytes place lt brace r = go r.gap r.more r.all r.quiet r.each r.left
  where
    x : ℕ
    x = get_or bytes place 0

    go : (gap : List ℕ) (more : List Tag) → tags ++ more ≡ whole → quiet_bytes gap ≡ true → EachTag more → drop place bytes ≡ gap ++ spelled breaks more → Next breaks whole tags bytes place
    go [] [] all quiet each e = absurd (let wrong : x ∷ drop (place + 1) bytes ≡ [] = sym (drop_more bytes place 0 lt) ∙ e in cc)
    go (y ∷ gap) more all quiet each e =
        let here : x ≡ y = ap (λ (l : List ℕ). get_or l 0 0) (sym (drop_more bytes place 0 lt) ∙ e) in
        absurd (noisy (eqb y 123) (quiet_bytes gap) (eq-eqb y 123 (sym here ∙ brace)) quiet)
      where
        noisy : (t u : Bool) → t ≡ true → not t && u ≡ true → ⊥
        noisy true u e f = let wrong : false ≡ true = f in absurd cc
        noisy false u e f = absurd cc
    go [] (v ∷ more) all quiet each e =
        let rest = gap_before breaks more ++ spelled breaks more in
        let is : drop place bytes ≡ spelling v ++ rest = e ∙ tag_first breaks v more in
        let P : List ℕ → Type 0 = λ l. FoundTag tag_numbers l v (length (spelling v)) in
        let long : length bytes ≡ place + (length (spelling v) + length rest) = omega (arith, ap length is, length-drop place bytes, length-append (spelling v) rest) in
        record {
          tag = v;
          found = subst P (sym is) (found_first v rest each.0 (past_gap breaks more));
          rest = record {
            within = omega arith;
            more = more;
            gap = gap_before breaks more;
            all = append_assoc tags (v ∷ []) more ∙ all;
            left = sym (drop-drop (length (spelling v)) place bytes) ∙ ap (drop (length (spelling v))) is ∙ drop-append_seam (spelling v) rest;
            quiet = quiet_gap breaks more;
            each = each.1;
          };
        }

-- a tag stands there
pub tag_ahead : (breaks : Breaks) (whole tags : List Tag) (bytes front : List ℕ) (place : ℕ) → place < length bytes → get_or bytes place 0 ≡ 123 → front ≡ drop place bytes → Rest breaks whole tags bytes place → TagInFront front
tag_ahead breaks whole tags bytes front place lt brace is r =
    let next = next_at breaks whole tags bytes place lt brace r in
    subst TagInFront (sym is) (record { numbers = tag_numbers; tag = next.tag; size = length (spelling next.tag); found = next.found })

-- the tag that was cut off is each tag that stands there
abbrev pub CutOff : List ℕ → Tag → ℕ → Type 0
CutOff front v n = (numbers : List ℕ) (w : Tag) (m : ℕ) → FoundTag numbers front w m → (v ≡ w) × (n ≡ m)

one_cut : (breaks : Breaks) (whole tags : List Tag) (bytes front : List ℕ) (place : ℕ) (v : Tag) (n : ℕ) → front ≡ drop place bytes → CutOff front v n → (next : Next breaks whole tags bytes place) → (v ≡ next.tag) × (n ≡ length (spelling next.tag))
one_cut breaks whole tags bytes front place v n is cut next =
    let P : List ℕ → Type 0 = λ l. FoundTag tag_numbers l next.tag (length (spelling next.tag)) in
    cut tag_numbers next.tag (length (spelling next.tag)) (subst P (sym is) next.found)

-- a tag is cut off
pub over_tag : (breaks : Breaks) (whole tags : List Tag) (bytes front : List ℕ) (place : ℕ) (v : Tag) (n : ℕ) → place < length bytes → get_or bytes place 0 ≡ 123 → front ≡ drop place bytes → CutOff front v n
    → Rest breaks whole tags bytes place → Rest breaks whole (tags ++ v ∷ []) bytes (place + n)
over_tag breaks whole tags bytes front place v n lt brace is cut r =
    let next = next_at breaks whole tags bytes place lt brace r in
    let one = one_cut breaks whole tags bytes front place v n is cut next in
    let P : Tag → Type 0 = λ w. Rest breaks whole (tags ++ w ∷ []) bytes (place + length (spelling next.tag)) in
    let Q : ℕ → Type 0 = λ m. Rest breaks whole (tags ++ v ∷ []) bytes (place + m) in
    subst Q (sym one.1) (subst P (sym one.0) next.rest)

-- a tag has bytes, and they are there
pub tag_within : (breaks : Breaks) (whole tags : List Tag) (bytes front : List ℕ) (place : ℕ) (v : Tag) (n : ℕ) → place < length bytes → get_or bytes place 0 ≡ 123 → front ≡ drop place bytes → CutOff front v n
    → Rest breaks whole tags bytes place → (place < place + n) × (place + n ≤ length bytes)
tag_within breaks whole tags bytes front place v n lt brace is cut r =
    let next = next_at breaks whole tags bytes place lt brace r in
    let one = one_cut breaks whole tags bytes front place v n is cut next in
    (omega (arith, one.1), omega (arith, one.1, next.rest.within))

-- at the end all are cut off
pub none_left : (breaks : Breaks) (whole tags : List Tag) (bytes : List ℕ) (place : ℕ) → length bytes ≤ place → Rest breaks whole tags bytes place → tags ≡ whole
none_left breaks whole tags bytes place le r = go r.gap r.more r.all (sym (drop_all place bytes le) ∙ r.left)
  where
    go : (gap : List ℕ) (more : List Tag) → tags ++ more ≡ whole → [] ≡ gap ++ spelled breaks more → tags ≡ whole
    go [] [] all e = sym (append-nil tags) ∙ all
    go [] (v ∷ more) all e = absurd (let wrong : [] ≡ spelling v ++ (gap_before breaks more ++ spelled breaks more) = e ∙ tag_first breaks v more in cc)
    go (y ∷ gap) more all e = absurd cc
