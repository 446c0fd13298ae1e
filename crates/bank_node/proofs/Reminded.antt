-- The drafts that a reminder submits again, from their places among the drafts.
use Rattle.std.proofs.Common.{◌≡◌, refl, sym, ◌∙◌, ap, subst, ℕ, zero, suc, ◌+◌, ◌<◌, ◌≤◌, List, [], ◌∷◌, ◌++◌, append_assoc, length, map, take, get_or, Option, Some, None, option_map, arith}
use Rattle.std.specs.List.{Contains, slice_get}
use Rattle.std.proofs.lemmas.List.{get_or-map, length-map, length-take, map-append, take-map, take_all, take_more}
use Rattle.std.proofs.lemmas.Option.{get_or_from_slice_get, slice_get-get_or, slice_get_within}
use Rattle.link_frames.specs.declared.frame.FrameKind.TheVariants.{Submit}
use Rattle.link_frames.specs.Frames.{frame_bytes, greatest_payload}
use Rattle.faim_model.specs.Submissions.{text_with}
use Rattle.faim_model.proofs.Drawn.{from_filter, from_take}
use Rattle.bank_books.specs.declared.entries.BankEntry.{BankEntry}
use Rattle.bank_books.specs.declared.entries.BankOpening.{BankOpening}
use Rattle.bank_books.specs.Drafts.{Draft, drafts, is_open, open_drafts, unanswered}
use Rattle.bank_books.proofs.Numbers.{at_its_place, own_source}
use Rattle.bank_turns.specs.BankSteps.{reminded}
use Rattle.bank_turns.specs.Drafting.{submit}
use Rattle.bank_turns.specs.KeptTexts.{KeptBank}
use Rattle.bank_turns.proofs.KeptSteps.{drafts_short, kept_lawful}

-- an item stands at each place below the length
item_at : {A : Type 0} (xs : List A) (n : ℕ) → n < length xs → (x : A) × (get_or xs n x ≡ x)
item_at [] n lt = absurd (omega (arith, lt))
item_at (x ∷ xs) zero lt = (x, refl)
item_at (x ∷ xs) (suc n) lt = item_at xs n (omega (arith, lt))

-- the text of the draft at a place
abbrev pub text_at : List BankEntry → ℕ → Option (List ℕ)
text_at es place = option_map (λ (d : Draft). d.text) (slice_get (drafts es) place)

-- a draft that stands at a place
module _ (o : BankOpening) (es : List BankEntry) (place : ℕ) (kept : KeptBank o es) (d : Draft) (stands : slice_get (drafts es) place ≡ Some d) where
  there : Contains (drafts es) d
  there = (place, slice_get_within (drafts es) place d stands, get_or_from_slice_get (drafts es) place d d stands)

  -- what is found there is its text
  own_text : (text : List ℕ) → Some text ≡ text_at es place → text ≡ d.text
  own_text text found = let same : Some text ≡ Some d.text = found ∙ ap (option_map (λ (e : Draft). e.text)) stands in cc

  -- so it fits a frame
  text_fits : (text : List ℕ) → Some text ≡ text_at es place → length text ≤ greatest_payload
  text_fits text found =
      let short = drafts_short o es d kept there in
      omega (arith, short, ap length (own_text text found))

  -- and the frame with it is that of the draft, on the bank's own line
  pub submits : (line text : List ℕ) → line ≡ o.endpoint → Some text ≡ text_at es place
      → record { kind = Submit; endpoint = line; payload = text_with 80 text } ≡ submit d.imad d.text 80
  submits line text own found =
      let source : line ≡ d.imad.source = own ∙ sym (own_source o es d (kept_lawful o es kept) there) in
      let same : text ≡ d.text = own_text text found in
      λ k. record { kind = Submit; endpoint = source k; payload = text_with 80 (same k) }

-- a text is found at each place below the count, and it fits
pub found_fits : (o : BankOpening) (es : List BankEntry) (place : ℕ) → KeptBank o es → place < length (drafts es)
    → (text : List ℕ) → Some text ≡ text_at es place → length text ≤ greatest_payload
found_fits o es place kept lt =
    let d = item_at (drafts es) place lt in
    text_fits o es place kept d.0 (slice_get-get_or (drafts es) place d.0 lt ∙ ap Some d.1)

pub none_unfound : (es : List BankEntry) (place : ℕ) → place < length (drafts es) → None ≡ text_at es place → ⊥
none_unfound es place lt found =
    let d = item_at (drafts es) place lt in
    let stands : slice_get (drafts es) place ≡ Some d.0 = slice_get-get_or (drafts es) place d.0 lt ∙ ap Some d.1 in
    let same : None ≡ Some d.0.text = found ∙ ap (option_map (λ (e : Draft). e.text)) stands in
    absurd cc

-- the places for which a reminder is are those of the drafts that it submits again
places_are : (es : List BankEntry) (places : List ℕ) → places ≡ unanswered 64 es
    → places ≡ map (λ (d : Draft). d.place) (reminded es)
places_are es places are = are ∙ take-map (λ (d : Draft). d.place) 64 (open_drafts es)

pub as_many : (es : List BankEntry) (places : List ℕ) → places ≡ unanswered 64 es → length places ≡ length (reminded es)
as_many es places are = ap length (places_are es places are) ∙ length-map (reminded es) (λ (d : Draft). d.place)

pub at_most_64 : (es : List BankEntry) → length (reminded es) ≤ 64
at_most_64 es = omega (arith, length-take 64 (open_drafts es))

-- the draft that a reminder is for at a place: where it stands, and what it is after those before it
pub record IsAgain (es : List BankEntry) (place n : ℕ) : Type 0 where
  pub draft : Draft
  pub stands : slice_get (drafts es) place ≡ Some draft
  pub more : take (n + 1) (reminded es) ≡ take n (reminded es) ++ draft ∷ []

pub again_at : (es : List BankEntry) (places : List ℕ) (n : ℕ) → places ≡ unanswered 64 es → n < length places
    → IsAgain es (get_or places n 0) n
again_at es places n are lt =
    let within : n < length (reminded es) = omega (arith, lt, as_many es places are) in
    let d = item_at (reminded es) n within in
    let place : get_or places n 0 ≡ d.0.place =
    ap (λ (l : List ℕ). get_or l n 0) (places_are es places are)
    ∙ get_or-map (λ (e : Draft). e.place) (reminded es) n d.0 0 within ∙ ap (λ (e : Draft). e.place) d.1 in
    let drafted : Contains (drafts es) d.0 =
    from_filter (is_open es) (drafts es) d.0 (from_take 64 (open_drafts es) d.0 (n, within, d.1)) in
    record {
      draft = d.0;
      stands = subst (λ (k : ℕ). slice_get (drafts es) k ≡ Some d.0) (sym place) (at_its_place es d.0 drafted);
      more = take_more (reminded es) n d.0 within ∙ ap (λ (e : Draft). take n (reminded es) ++ e ∷ []) d.1;
    }

pub stands_below : (es : List BankEntry) (places : List ℕ) (n : ℕ) → places ≡ unanswered 64 es → n < length places
    → get_or places n 0 < length (drafts es)
stands_below es places n are lt =
    let r = again_at es places n are lt in
    slice_get_within (drafts es) (get_or places n 0) r.draft r.stands

-- the submissions of drafts, as bytes
abbrev pub submitted : List Draft → List (List ℕ)
submitted ds = map frame_bytes (map (λ (d : Draft). submit d.imad d.text 80) ds)

submitted-append : (ds es : List Draft) → submitted (ds ++ es) ≡ submitted ds ++ submitted es
submitted-append ds es =
    ap (map frame_bytes) (map-append (λ (d : Draft). submit d.imad d.text 80) ds es)
    ∙ map-append frame_bytes (map (λ (d : Draft). submit d.imad d.text 80) ds) (map (λ (d : Draft). submit d.imad d.text 80) es)

-- one draft more
pub one_more : (old mid new : List (List ℕ)) (ds more : List Draft) (d : Draft) → mid ≡ old ++ submitted ds
    → new ≡ mid ++ frame_bytes (submit d.imad d.text 80) ∷ [] → more ≡ ds ++ d ∷ [] → new ≡ old ++ submitted more
one_more old mid new ds more d before after is =
    after ∙ ap (λ (l : List (List ℕ)). l ++ submitted (d ∷ [])) before
    ∙ append_assoc old (submitted ds) (submitted (d ∷ []))
    ∙ ap (λ (l : List (List ℕ)). old ++ l) (sym (ap submitted is ∙ submitted-append ds (d ∷ [])))

-- none is left once there is no place more
pub all_submitted : (es : List BankEntry) (places : List ℕ) (n : ℕ) → places ≡ unanswered 64 es → length places ≤ n
    → submitted (take n (reminded es)) ≡ submitted (reminded es)
all_submitted es places n are past =
    let within : length (reminded es) ≤ n = omega (arith, past, as_many es places are) in
    ap submitted (take_all n (reminded es) within)
