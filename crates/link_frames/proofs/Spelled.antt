-- What the bytes of a frame show, and a frame that bytes begin.
use Rattle.std.proofs.Common.{◌≡◌, ℕ, zero, suc, ◌+◌, ◌-◌, ◌≤◌, true, nat_le, List, [], ◌∷◌, ◌++◌, length, take, drop, get_or, replicate, Option, Some, None, is_some, refl, sym, ◌∙◌, ap, arith, append-nil, append_assoc, length-append, length-drop, take-append-drop}
use Rattle.std.specs.Int.{from_be_bytes, w32}
use Rattle.std.specs.List.{list_all}
use Rattle.std.proofs.lemmas.Bool.{and_from, le-leb}
use Rattle.std.proofs.lemmas.List.{take-take, take-append-le, drop-append-le, take_at, drop_at, length-take-le, length-replicate}
use Rattle.std.proofs.lemmas.List.Folds.{list_all-append}
use Rattle.std.proofs.lemmas.Nat.{from_be_bytes-to_be_bytes_4}
use Rattle.faim_base.specs.Text.{is_name_byte}
use Rattle.link_frames.specs.declared.frame.FrameKind.{FrameKind}
use Rattle.link_frames.specs.declared.fault.FrameFault.{FrameFault}
use Rattle.link_frames.specs.Frames.{Content, IsFrame, frame_bytes}
use Rattle.link_frames.specs.Kinds.{kind_byte, kind_of}
use Rattle.link_frames.specs.Splits.{AreBytes, fault_at, kind_fault, length_at, size_at, may_be_length, is_whole}
use Rattle.link_frames.proofs.Fronts.{take_more_of, no_fault, no_fault_from, sized, size_more, fault_same, fault_stays, whole, whole_from}
use Rattle.link_frames.proofs.Shapes.{bytes_both, bytes_taken, kind_written, kind_clean, kind_clean_from, frame_there}

module _ (f : Content) (is : IsFrame f) where
  pub frame_number : (more : List ℕ) → length_at (frame_bytes f ++ more) ≡ 9 + length f.payload
  frame_number more = from_be_bytes-to_be_bytes_4 (9 + length f.payload) (omega (arith, is.payload))

  pub frame_length : length (frame_bytes f) ≡ 13 + length f.payload
  frame_length = omega (arith, length-append f.endpoint f.payload, is.endpoint.0)

  pub name_front : (more : List ℕ) → take 8 ((f.endpoint ++ f.payload) ++ more) ≡ f.endpoint
  name_front more =
      ap (λ (l : List ℕ). take 8 l) (append_assoc f.endpoint f.payload more)
      ∙ take_at f.endpoint (f.payload ++ more) 8 is.endpoint.0

  pub name_over : (more : List ℕ) → drop 8 ((f.endpoint ++ f.payload) ++ more) ≡ f.payload ++ more
  name_over more =
      ap (λ (l : List ℕ). drop 8 l) (append_assoc f.endpoint f.payload more)
      ∙ drop_at f.endpoint (f.payload ++ more) 8 is.endpoint.0

  long_enough : (more : List ℕ) → 4 ≤ length (frame_bytes f ++ more)
  long_enough more = omega (arith, length-append (frame_bytes f) more, frame_length)

  pub frame_clean : (more : List ℕ) → fault_at (frame_bytes f ++ more) ≡ None
  frame_clean more = no_fault_from (frame_bytes f ++ more)
      (ap may_be_length (frame_number more) ∙ and_from (nat_le 9 (9 + length f.payload)) (nat_le (9 + length f.payload) 8201) (le-leb 9 (9 + length f.payload) (omega arith)) (le-leb (9 + length f.payload) 8201 (omega (arith, is.payload))))
      (kind_clean_from (kind_byte f.kind) ((f.endpoint ++ f.payload) ++ more)
      (ap (λ (o : Option FrameKind). is_some o) (kind_written f.kind))
      (ap (list_all is_name_byte) (name_front more) ∙ is.endpoint.1))
      (long_enough more)

  pub frame_size : (more : List ℕ) → size_at (frame_bytes f ++ more) ≡ length (frame_bytes f)
  frame_size more = omega (arith, frame_number more, frame_length)

  pub frame_whole : (more : List ℕ) → is_whole (frame_bytes f ++ more) ≡ true
  frame_whole more = whole_from (frame_bytes f ++ more) (long_enough more) (omega (arith, frame_size more, length-append (frame_bytes f) more)) (frame_clean more)

  -- no front of a frame shows a fault
  pub front_clean : (n : ℕ) → fault_at (take n (frame_bytes f)) ≡ None
  front_clean n = by_fault (fault_at (take n (frame_bytes f))) refl where
    by_fault : (o : Option FrameFault) → fault_at (take n (frame_bytes f)) ≡ o → o ≡ None
    by_fault None e = refl
    by_fault (Some fault) e =
        let h : fault_at (frame_bytes f ++ []) ≡ Some fault =
        ap fault_at (append-nil (frame_bytes f) ∙ sym (take-append-drop n (frame_bytes f))) ∙ fault_stays (take n (frame_bytes f)) (drop n (frame_bytes f)) fault e in
        let g = frame_clean [] in absurd (cc)

abbrev content : FrameKind → List ℕ → List ℕ → Content
content k e p = record { kind = k; endpoint = e; payload = p }

content_same : (k l : FrameKind) (e d p q : List ℕ) → k ≡ l → e ≡ d → p ≡ q → content k e p ≡ content l d q
content_same k l e d p q a b c =
    ap (λ x. content x e p) a
    ∙ ap (λ (x : List ℕ). content l x p) b
    ∙ ap (λ (x : List ℕ). content l d x) c

-- frames at the front of the same bytes are the same, and so is what comes after them
module _ (f g : Content) (isf : IsFrame f) (isg : IsFrame g) (a b : List ℕ) (e : frame_bytes f ++ a ≡ frame_bytes g ++ b) where
  lengths_same : length f.payload ≡ length g.payload
  lengths_same = omega (arith, frame_number f isf a, frame_number g isg b, ap (λ (l : List ℕ). length_at l) e)

  kinds_same : f.kind ≡ g.kind
  kinds_same =
      let same : kind_byte f.kind ≡ kind_byte g.kind = ap (λ (l : List ℕ). get_or l 4 0) e in
      let h : Some f.kind ≡ Some g.kind = sym (kind_written f.kind) ∙ ap kind_of same ∙ kind_written g.kind in
      cc

  rests : (f.endpoint ++ f.payload) ++ a ≡ (g.endpoint ++ g.payload) ++ b
  rests = ap (λ (l : List ℕ). drop 5 l) e

  over : f.payload ++ a ≡ g.payload ++ b
  over = sym (name_over f isf a) ∙ ap (λ (l : List ℕ). drop 8 l) rests ∙ name_over g isg b

  pub frames_same : f ≡ g
  frames_same = content_same f.kind g.kind f.endpoint g.endpoint f.payload g.payload kinds_same
      (sym (name_front f isf a) ∙ ap (λ (l : List ℕ). take 8 l) rests ∙ name_front g isg b)
      (sym (take_at f.payload a (length f.payload) refl) ∙ ap (λ (l : List ℕ). take (length f.payload) l) over ∙ take_at g.payload b (length f.payload) (sym lengths_same))

  pub rest_same : a ≡ b
  rest_same = sym (drop_at f.payload a (length f.payload) refl) ∙ ap (λ (l : List ℕ). drop (length f.payload) l) over ∙ drop_at g.payload b (length f.payload) (sym lengths_same)

-- bytes without a fault go on to a frame
letters : (k n : ℕ) → list_all is_name_byte (take k (replicate n 65)) ≡ true
letters zero n = refl
letters (suc k) zero = refl
letters (suc k) (suc n) = letters k n

letter_bytes : (n : ℕ) → AreBytes (replicate n 65)
letter_bytes zero i = omega arith
letter_bytes (suc n) zero = omega arith
letter_bytes (suc n) (suc i) = letter_bytes n i

-- what comes after the length, and may end it
pub record Ends (z w : List ℕ) (k : ℕ) : Type 0 where
  pub long : length w ≡ k
  pub bytes : AreBytes w
  pub clean : kind_fault (z ++ w) ≡ None

first_bytes : (n : ℕ) → AreBytes (1 ∷ replicate n 65)
first_bytes n zero = omega arith
first_bytes n (suc i) = letter_bytes n i

finish : (z : List ℕ) (k : ℕ) → 1 ≤ k + length z → kind_fault z ≡ None → (w : List ℕ) × Ends z w k
finish [] zero le clean = absurd (omega (arith, le))
finish [] (suc k) le clean = (1 ∷ replicate k 65, record { long = omega (arith, length-replicate {A = ℕ} k 65); bytes = first_bytes k; clean = kind_clean_from 1 (replicate k 65) refl (letters 8 k) })
finish (b ∷ rest) k le clean =
    let both = kind_clean b rest clean in (
      replicate k 65,
      record {
        long = length-replicate {A = ℕ} k 65;
        bytes = letter_bytes k;
        clean = kind_clean_from b (rest ++ replicate k 65) both.0
            (ap (list_all is_name_byte) (take_more_of 8 rest (replicate k 65))
            ∙ list_all-append is_name_byte (take 8 rest) (take (8 - length rest) (replicate k 65))
            ∙ and_from (list_all is_name_byte (take 8 rest)) (list_all is_name_byte (take (8 - length rest) (replicate k 65))) both.1 (letters (8 - length rest) k));
      },
    )

goes_on : (r more : List ℕ) → (f : Content) × IsFrame f × (frame_bytes f ≡ r ++ more) → (f : Content) × (more : List ℕ) × IsFrame f × (r ++ more ≡ frame_bytes f)
goes_on r more t = (t.0, more, t.1, sym t.2)

module _ (r : List ℕ) (bytes : AreBytes r) (four : 4 ≤ length r) (clean : fault_at r ≡ None) (few : length r ≤ size_at r) where
  ended : (w : List ℕ) × Ends (drop 4 r) w (size_at r - length r)
  ended = finish (drop 4 r) (size_at r - length r) (omega (arith, (sized r four clean).0, few, four, length-drop 4 r)) (no_fault r four clean).1

  abbrev filler : List ℕ
  filler = ended.0

  all : length (r ++ filler) ≡ length r + length filler
  all = length-append r filler

  size_kept : size_at (r ++ filler) ≡ size_at r
  size_kept = size_more r filler four

  all_clean : fault_at (r ++ filler) ≡ None
  all_clean = no_fault_from (r ++ filler)
      (ap (λ (l : List ℕ). may_be_length (from_be_bytes w32 l)) (take-append-le 4 r filler four) ∙ (no_fault r four clean).0)
      (ap kind_fault (drop-append-le 4 r filler four) ∙ ended.1.clean)
      (omega (arith, all, four))

  pub begun : (f : Content) × (more : List ℕ) × IsFrame f × (r ++ more ≡ frame_bytes f)
  begun =
      goes_on r filler (frame_there (r ++ filler) (omega (arith, all, four)) all_clean (omega (arith, all, size_kept, few, ended.1.long)) (bytes_both r filler bytes ended.1.bytes))

-- a whole front is a frame
in_front : (n : ℕ) (x : List ℕ) → (f : Content) × IsFrame f × (frame_bytes f ≡ take n x) → (f : Content) × (more : List ℕ) × IsFrame f × (x ≡ frame_bytes f ++ more)
in_front n x t = (t.0, drop n x, t.1, sym (take-append-drop n x) ∙ ap (λ (l : List ℕ). l ++ drop n x) (sym t.2))

pub whole_front : (x : List ℕ) → AreBytes x → is_whole x ≡ true → (f : Content) × (more : List ℕ) × IsFrame f × (x ≡ frame_bytes f ++ more)
whole_front x bytes e =
    let w = whole x e in
    let s = sized x w.four w.none in
    let y = take (size_at x) x in
    let long : length y ≡ size_at x = length-take-le (size_at x) x w.fits in
    let size : size_at y ≡ size_at x = ap (λ (l : List ℕ). 4 + from_be_bytes w32 l) (take-take 4 (size_at x) x (omega (arith, s.0))) in
    let clean : fault_at y ≡ None = fault_same y x (take-take 13 (size_at x) x s.0) ∙ w.none in
    in_front (size_at x) x (frame_there y (omega (arith, long, s.0)) clean (omega (arith, long, size)) (bytes_taken (size_at x) x bytes))
