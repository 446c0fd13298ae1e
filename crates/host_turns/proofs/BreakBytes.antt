-- The byte after a submission's first tag tells its breaks.
use Rattle.std.proofs.Common.{◌≡◌, ℕ, ◌+◌, ◌<◌, Bool, true, false, get_or, List, [], ◌∷◌, ◌++◌, length, refl, sym, ap, subst, ◌∙◌, arith, length-append}
use Rattle.std.proofs.lemmas.Bool.{eqb-true}
use Rattle.std.proofs.lemmas.List.{get_or-append-add}
use Rattle.faim_tags.specs.Layouts.{classes, maxima, row_of}
use Rattle.faim_tags.specs.Spelling.{Tag, all_fit, braced, spelling, starred}
use Rattle.faim_tags.proofs.Ends.{fill-run}
use Rattle.faim_message.specs.declared.form.Form.{Form}
use Rattle.faim_message.specs.declared.form.Form.TheVariants.{Input}
use Rattle.faim_message.specs.declared.form.Breaks.{Breaks}
use Rattle.faim_message.specs.declared.form.Breaks.TheVariants.{Joined, Lf, CrLf}
use Rattle.faim_message.specs.Forms.{between, ending}
use Rattle.faim_message.specs.Spelling.{AreTags, Content, Spells, is_complete, joined}

-- the first tag has no star elements
no_stars : (stars : List (List ℕ)) (closed : Bool) → all_fit [] stars closed ≡ true → starred stars closed ≡ []
no_stars [] closed fit = refl
no_stars (s ∷ stars) closed fit = absurd (let wrong : false ≡ true = fit in cc)

first_layout : (length (classes 1500) ≡ 12) × (maxima 1500 ≡ [])
unfolding row_of
first_layout = (refl, refl)

-- and 18 bytes
first_length : (v : Tag) (tags : List Tag) → AreTags Input (v ∷ tags) → length (spelling v) ≡ 18
first_length v tags are =
    let number : v.no ≡ 1500 = eqb-true v.no 1500 are.led in
    let tag = are.each.0 in
    let fixed : length v.fixed ≡ length (classes v.no) = (fill-run (classes v.no) v.fixed tag.filled).1 in
    let twelve : length v.fixed ≡ 12 = fixed ∙ ap (λ (n : ℕ). length (classes n)) number ∙ first_layout.0 in
    let none : maxima v.no ≡ [] = ap maxima number ∙ first_layout.1 in
    let fit : all_fit [] v.stars v.closed ≡ true = sym (ap (λ (most : List ℕ). all_fit most v.stars v.closed) none) ∙ tag.fitting in
    let bare : length (starred v.stars v.closed) ≡ 0 = ap length (no_stars v.stars v.closed fit) in
    omega (arith, twelve, bare, length-append (braced v.no ++ v.fixed) (starred v.stars v.closed), length-append (braced v.no) v.fixed)

-- tags begin with a brace
joined_brace : (sep end : List ℕ) (w : Tag) (tags : List Tag) → (rest : List ℕ) × (joined sep end (w ∷ tags) ≡ 123 ∷ rest)
joined_brace sep end w [] = (_, refl)
joined_brace sep end w (t ∷ tags) = (_, refl)

-- the byte that begins what stands between tags, or the next tag's brace
abbrev pub break_byte : Breaks → ℕ
break_byte Joined = 123
break_byte (Lf last) = 10
break_byte (CrLf last) = 13

break_first : (b : Breaks) (bytes rest : List ℕ) → bytes ≡ 123 ∷ rest → get_or (between b ++ bytes) 0 0 ≡ break_byte b
break_first Joined bytes rest brace = ap (λ (l : List ℕ). get_or l 0 0) brace
break_first (Lf last) bytes rest brace = refl
break_first (CrLf last) bytes rest brace = refl

-- two tags at least: where a submission's text goes on after its first tag, and what stands there
pub record GoesOn (m : Content) (text : List ℕ) : Type 0 where
  pub long : 18 < length text
  pub byte : get_or text 18 0 ≡ break_byte m.breaks

after_first : (b : Breaks) (v w : Tag) (tags : List Tag) → length (spelling v) ≡ 18
    → (18 < length (joined (between b) (ending b) (v ∷ w ∷ tags))) × (get_or (joined (between b) (ending b) (v ∷ w ∷ tags)) 18 0 ≡ break_byte b)
after_first b v w tags eighteen =
    let rest = joined (between b) (ending b) (w ∷ tags) in
    let brace = joined_brace (between b) (ending b) w tags in
    let some : length rest ≡ 1 + length brace.0 = ap length brace.1 ∙ omega arith in
    let at : 18 ≡ length (spelling v) + 0 = omega (arith, eighteen) in (
      omega (arith, eighteen, some, length-append (spelling v) (between b ++ rest), length-append (between b) rest),
      ap (λ (n : ℕ). get_or (spelling v ++ (between b ++ rest)) n 0) at ∙ get_or-append-add (spelling v) (between b ++ rest) 0 0 ∙ break_first b rest brace.0 brace.1,
    )

tags_go_on : (b : Breaks) (tags : List Tag) → AreTags Input tags → is_complete Input tags ≡ true
    → (18 < length (joined (between b) (ending b) tags)) × (get_or (joined (between b) (ending b) tags) 18 0 ≡ break_byte b)
tags_go_on b [] are complete = absurd (let wrong : false ≡ true = are.led in cc)
tags_go_on b (v ∷ []) are complete =
    let number : v.no ≡ 1500 = eqb-true v.no 1500 are.led in
    absurd (let wrong : false ≡ true = sym (ap (λ (n : ℕ). alone n) number) ∙ complete in cc)
  where
    alone : ℕ → Bool
    alone n = is_complete Input (record { no = n; fixed = v.fixed; stars = v.stars; closed = v.closed } ∷ [])
tags_go_on b (v ∷ w ∷ tags) are complete = after_first b v w tags (first_length v (w ∷ tags) are)

pub goes_on : (m : Content) (text : List ℕ) → Spells m text → m.form ≡ Input → GoesOn m text
goes_on m text spells form =
    let are : AreTags Input m.tags = subst (λ (f : Form). AreTags f m.tags) form spells.sound.tags_sound in
    let complete : is_complete Input m.tags ≡ true = subst (λ (f : Form). is_complete f m.tags ≡ true) form spells.sound.complete in
    let on = tags_go_on m.breaks m.tags are complete in
    record {
      long = subst (λ (l : List ℕ). 18 < length l) (sym spells.spelled) on.0;
      byte = ap (λ (l : List ℕ). get_or l 18 0) spells.spelled ∙ on.1;
    }

-- what stands there, from the byte
pub lf_there : (b : Breaks) → break_byte b ≡ 10 → 10 ∷ [] ≡ between b
lf_there Joined is = absurd (omega (arith, is))
lf_there (Lf last) is = refl
lf_there (CrLf last) is = absurd (omega (arith, is))

pub cr_lf_there : (b : Breaks) → break_byte b ≡ 13 → 13 ∷ 10 ∷ [] ≡ between b
cr_lf_there Joined is = absurd (omega (arith, is))
cr_lf_there (Lf last) is = absurd (omega (arith, is))
cr_lf_there (CrLf last) is = refl

pub nothing_there : (b : Breaks) → (break_byte b ≡ 10 → ⊥) → (break_byte b ≡ 13 → ⊥) → [] ≡ between b
nothing_there Joined lf cr = refl
nothing_there (Lf last) lf cr = absurd (lf refl)
nothing_there (CrLf last) lf cr = absurd (cr refl)
