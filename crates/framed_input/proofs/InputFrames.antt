-- The frames of an input as a function, and what a session read of it.
use Rattle.std.proofs.Common.{◌≡◌, ℕ, zero, suc, ◌-◌, ◌≤◌, false, List, [], ◌∷◌, ◌++◌, length, take, drop, if◌then◌else◌, Option, Some, None, refl, sym, ◌∙◌, ap, subst, arith, append-nil, append_assoc, length-append, get_or}
use Rattle.std.specs.Prelude.{Err}
use Rattle.std.specs.List.{flat_map, AllByRecursion}
use Rattle.std.proofs.lemmas.List.{take_at, drop_at, take_all}
use Rattle.std.proofs.lemmas.Grind.{flat_map-append}
use Rattle.link_frames.specs.declared.fault.FrameFault.{FrameFault}
use Rattle.link_frames.specs.declared.frame.FrameKind.{FrameKind}
use Rattle.link_frames.specs.Frames.{Content, IsFrame, frame_bytes}
use Rattle.link_frames.specs.Kinds.{kind_of}
use Rattle.link_frames.specs.Splits.{AreBytes, Splits, fault_at, is_whole, size_at, end_at}
use Rattle.link_frames.proofs.Fronts.{take_more_of}
use Rattle.link_frames.proofs.Shapes.{kind_written, bytes_left, bytes_right}
use Rattle.link_frames.proofs.Spelled.{frame_length, name_front, frame_whole, frame_size}
use Rattle.link_frames.proofs.Splitting.{splits_any, longest, goes_on, fault_splits}
use Rattle.framed_input.specs.FramesIn.{after_front, front_by, front_frame, put_first, first_frames, frames_in, rest_in}
use Rattle.framed_input.specs.Intake.{Intake}
use Rattle.framed_input.specs.Limits.{greatest_input}
use Rattle.framed_input.specs.Reading.{HasRead}
use Rattle.framed_input.specs.Taking.{Takes}

abbrev content : FrameKind → List ℕ → List ℕ → Content
content k e p = record { kind = k; endpoint = e; payload = p }

module _ (f : Content) (is : IsFrame f) (more : List ℕ) where
  payload_there : drop 13 (take (size_at (frame_bytes f ++ more)) (frame_bytes f ++ more)) ≡ f.payload
  payload_there =
      ap (λ n. drop 13 (take n (frame_bytes f ++ more))) (frame_size f is more)
      ∙ ap (λ (l : List ℕ). drop 13 l) (take_at (frame_bytes f) more (length (frame_bytes f)) refl)
      ∙ drop_at f.endpoint f.payload 8 is.endpoint.0

  front_is : front_frame (frame_bytes f ++ more) ≡ Some f
  front_is =
      ap (λ b. if b then front_by (kind_of (get_or (frame_bytes f ++ more) 4 0)) (frame_bytes f ++ more) else None) (frame_whole f is more)
      ∙ ap (λ (o : Option FrameKind). front_by o (frame_bytes f ++ more)) (kind_written f.kind)
      ∙ ap (λ (e : List ℕ). Some (content f.kind e (drop 13 (take (size_at (frame_bytes f ++ more)) (frame_bytes f ++ more))))) (name_front f is more)
      ∙ ap (λ (p : List ℕ). Some (content f.kind f.endpoint p)) payload_there

  after_is : after_front (frame_bytes f ++ more) ≡ more
  after_is = ap (λ n. drop n (frame_bytes f ++ more)) (frame_size f is more) ∙ drop_at (frame_bytes f) more (length (frame_bytes f)) refl

front_none : (x : List ℕ) → is_whole x ≡ false → front_frame x ≡ None
front_none x e = ap (λ b. if b then front_by (kind_of (get_or x 4 0)) x else None) e

cons_more : (f : Content) (fs : List Content) (r : List ℕ) → flat_map frame_bytes (f ∷ fs) ++ r ≡ frame_bytes f ++ (flat_map frame_bytes fs ++ r)
cons_more f fs r = append_assoc (frame_bytes f) (flat_map frame_bytes fs) r

frames_by : (fs : List Content) (r : List ℕ) (n : ℕ) → AllByRecursion IsFrame fs → is_whole r ≡ false → length (flat_map frame_bytes fs ++ r) ≤ n → first_frames n (flat_map frame_bytes fs ++ r) ≡ fs
frames_by [] r zero all part le = refl
frames_by [] r (suc n) all part le = ap (λ (o : Option Content). put_first o (first_frames n (after_front r))) (front_none r part)
frames_by (f ∷ fs) r zero all part le =
    absurd (omega (arith, le, ap (λ (l : List ℕ). length l) (cons_more f fs r), length-append (frame_bytes f) (flat_map frame_bytes fs ++ r), frame_length f all.0))
frames_by (f ∷ fs) r (suc n) all part le =
    let x = flat_map frame_bytes fs ++ r in
    ap (first_frames (suc n)) (cons_more f fs r)
    ∙ ap (λ (o : Option Content). put_first o (first_frames n (after_front (frame_bytes f ++ x)))) (front_is f all.0 x)
    ∙ ap (λ (l : List ℕ). f ∷ first_frames n l) (after_is f all.0 x)
    ∙ ap (λ (l : List Content). f ∷ l)
    (frames_by fs r n all.1 part (omega (arith, le, ap (λ (l : List ℕ). length l) (cons_more f fs r), length-append (frame_bytes f) (flat_map frame_bytes fs ++ r), frame_length f all.0)))

pub only : (bytes : List ℕ) (frames : List Content) (rest : List ℕ) → Splits bytes frames rest → (frames ≡ frames_in bytes) × (rest ≡ rest_in bytes)
only bytes frames rest s =
    let all = flat_map frame_bytes frames ++ rest in
    let same : frames_in bytes ≡ frames = ap frames_in s.is ∙ frames_by frames rest (length all) s.each s.part (omega arith) in (
      sym same,
      sym (ap (λ (l : List Content). drop (length (flat_map frame_bytes l)) bytes) same
          ∙ ap (drop (length (flat_map frame_bytes frames))) s.is
          ∙ drop_at (flat_map frame_bytes frames) rest (length (flat_map frame_bytes frames)) refl),
    )

splits_by : (bytes : List ℕ) → (frames : List Content) × (rest : List ℕ) × Splits bytes frames rest → Splits bytes (frames_in bytes) (rest_in bytes)
splits_by bytes t =
    let o = only bytes t.0 t.1 t.2 in
    subst (λ (l : List Content). Splits bytes l (rest_in bytes)) o.0 (subst (λ (l : List ℕ). Splits bytes t.0 l) o.1 t.2)

pub splits : (bytes : List ℕ) → AreBytes bytes → Splits bytes (frames_in bytes) (rest_in bytes)
splits bytes small = splits_by bytes (splits_any bytes small)

pub more_splits : (bytes more : List ℕ) → AreBytes (bytes ++ more) → Splits (bytes ++ more) (frames_in bytes ++ frames_in (rest_in bytes ++ more)) (rest_in (rest_in bytes ++ more))
more_splits bytes more small =
    let s = splits bytes (bytes_left bytes more small) in
    let moved : bytes ++ more ≡ flat_map frame_bytes (frames_in bytes) ++ (rest_in bytes ++ more) =
    ap (λ (l : List ℕ). l ++ more) s.is ∙ append_assoc (flat_map frame_bytes (frames_in bytes)) (rest_in bytes) more in
    goes_on bytes more (frames_in bytes) (frames_in (rest_in bytes ++ more)) (rest_in bytes) (rest_in (rest_in bytes ++ more)) s
    (splits (rest_in bytes ++ more) (bytes_right (flat_map frame_bytes (frames_in bytes)) (rest_in bytes ++ more) (subst AreBytes moved small)))

pub takes_more : (bytes : List ℕ) (frames : List Content) (left rest : Option (List ℕ)) (old new : Intake) (t : Takes greatest_input left rest old new)
    → HasRead bytes frames old → HasRead (bytes ++ t.more) frames new
takes_more bytes frames left rest old new t h = record {
  counted = omega (arith, t.counted, h.counted, length-append bytes t.more);
  each = h.each;
  is =
      take_more_of greatest_input bytes t.more
      ∙ ap (λ (l : List ℕ). l ++ take (greatest_input - length bytes) t.more) h.is
      ∙ append_assoc (flat_map frame_bytes frames) old.held (take (greatest_input - length bytes) t.more)
      ∙ ap (λ k. flat_map frame_bytes frames ++ (old.held ++ take (greatest_input - k) t.more)) (sym h.counted)
      ∙ ap (λ (l : List ℕ). flat_map frame_bytes frames ++ l) (sym t.grew);
}

each_more : (fs : List Content) (f : Content) → AllByRecursion IsFrame fs → IsFrame f → AllByRecursion IsFrame (fs ++ f ∷ [])
each_more [] f all is = (is, tt)
each_more (g ∷ fs) f all is = (all.0, each_more fs f all.1 is)

pub hands_out : (bytes : List ℕ) (frames : List Content) (f : Content) (old new : Intake) → HasRead bytes frames old → IsFrame f
    → old.held ≡ frame_bytes f ++ new.held → new.taken ≡ old.taken → HasRead bytes (frames ++ f ∷ []) new
hands_out bytes frames f old new h is held same = record {
  counted = same ∙ h.counted;
  each = each_more frames f h.each is;
  is =
      h.is
      ∙ ap (λ (l : List ℕ). flat_map frame_bytes frames ++ l) (held ∙ ap (λ (l : List ℕ). l ++ new.held) (sym (append-nil (frame_bytes f))))
      ∙ sym (append_assoc (flat_map frame_bytes frames) (frame_bytes f ++ []) new.held)
      ∙ ap (λ (l : List ℕ). l ++ new.held) (sym (flat_map-append frame_bytes frames (f ∷ [])));
}

pub first_ones : (bytes more : List ℕ) (frames all : List Content) (rest : List ℕ) (now : Intake) → HasRead bytes frames now
    → Splits (take greatest_input bytes ++ more) all rest → (later : List Content) × (all ≡ frames ++ later)
first_ones bytes more frames all rest now h s =
    let is : flat_map frame_bytes frames ++ (now.held ++ more) ≡ flat_map frame_bytes all ++ rest =
    sym (append_assoc (flat_map frame_bytes frames) now.held more) ∙ ap (λ (l : List ℕ). l ++ more) (sym h.is) ∙ s.is in
    let t = longest frames all (now.held ++ more) rest is h.each s.each s.part in
    (t.0, t.1)

pub short_input : (bytes : List ℕ) (frames : List Content) (now : Intake) → HasRead bytes frames now → now.taken ≤ greatest_input → take greatest_input bytes ≡ bytes
short_input bytes frames now h le = take_all greatest_input bytes (omega (arith, le, h.counted))

pub fault_ends : (bytes more : List ℕ) (frames : List Content) (now : Intake) (e : FrameFault) → HasRead bytes frames now → fault_at now.held ≡ Some e
    → Splits (take greatest_input bytes ++ more) frames (now.held ++ more) × (end_at (now.held ++ more) ≡ Err e)
fault_ends bytes more frames now e h shown =
    let t = fault_splits frames now.held more e h.each shown in
    let moved : take greatest_input bytes ++ more ≡ flat_map frame_bytes frames ++ (now.held ++ more) =
    ap (λ (l : List ℕ). l ++ more) h.is ∙ append_assoc (flat_map frame_bytes frames) now.held more in
    (subst (λ (l : List ℕ). Splits l frames (now.held ++ more)) (sym moved) t.0, t.1)
