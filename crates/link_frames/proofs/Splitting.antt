-- Bytes as frames and a rest: that there is such a reading, that there is one, and how it goes on.
use Rattle.std.proofs.Common.{◌≡◌, ℕ, zero, suc, ◌<◌, ◌≤◌, Bool, true, false, List, [], ◌∷◌, ◌++◌, length, Option, Some, Err, refl, sym, ◌∙◌, ap, subst, arith, append_assoc, length-append}
use Rattle.std.specs.List.{flat_map, AllByRecursion}
use Rattle.std.proofs.lemmas.Grind.{flat_map-append}
use Rattle.link_frames.specs.declared.fault.FrameFault.{FrameFault}
use Rattle.link_frames.specs.Frames.{Content, IsFrame, frame_bytes}
use Rattle.link_frames.specs.Splits.{AreBytes, Splits, is_whole, fault_at, fault_or_cut, end_at}
use Rattle.link_frames.proofs.Fronts.{fault_stays, fault_not_whole}
use Rattle.link_frames.proofs.Shapes.{bytes_right}
use Rattle.link_frames.proofs.Spelled.{frame_length, frame_whole, frames_same, rest_same, whole_front}

-- there is one
abbrev Reads : List ℕ → Type 0
Reads x = (frames : List Content) × (rest : List ℕ) × Splits x frames rest

frame_more : (f : Content) (more : List ℕ) → IsFrame f → length more < length (frame_bytes f ++ more)
frame_more f more is = omega (arith, length-append (frame_bytes f) more, frame_length f is)

cons : (x more : List ℕ) (f : Content) → IsFrame f → x ≡ frame_bytes f ++ more → Reads more → Reads x
cons x more f is e s = (
  f ∷ s.0,
  s.1,
  record {
    is = e ∙ ap (λ (l : List ℕ). frame_bytes f ++ l) s.2.is ∙ sym (append_assoc (frame_bytes f) (flat_map frame_bytes s.0) s.1);
    each = (is, s.2.each);
    part = s.2.part;
  },
)

on_from : (x : List ℕ) → AreBytes x → ((y : List ℕ) → length y < length x → AreBytes y → Reads y) → (f : Content) × (more : List ℕ) × IsFrame f × (x ≡ frame_bytes f ++ more) → Reads x
on_from x bytes on t =
    let longer : length t.1 < length x = omega (arith, ap (λ (l : List ℕ). length l) t.3, frame_more t.0 t.1 t.2) in
    cons x t.1 t.0 t.2 t.3 (on t.1 longer (bytes_right (frame_bytes t.0) t.1 (subst AreBytes t.3 bytes)))

step : (x : List ℕ) → AreBytes x → ((y : List ℕ) → length y < length x → AreBytes y → Reads y) → (b : Bool) → is_whole x ≡ b → Reads x
step x bytes on false e = ([], x, record { is = refl; each = tt; part = e })
step x bytes on true e = on_from x bytes on (whole_front x bytes e)

reads : (n : ℕ) (x : List ℕ) → length x ≤ n → AreBytes x → Reads x
reads zero x le bytes = step x bytes (λ y lt b. absurd (omega (arith, lt, le))) (is_whole x) refl
reads (suc n) x le bytes = step x bytes (λ y lt b. reads n y (omega (arith, le, lt)) b) (is_whole x) refl

pub splits_any : (x : List ℕ) → AreBytes x → (frames : List Content) × (rest : List ℕ) × Splits x frames rest
splits_any x bytes = reads (length x) x (omega arith) bytes

-- there is one only, and no run of frames is longer
cons_more : (f : Content) (fs : List Content) (r : List ℕ) → flat_map frame_bytes (f ∷ fs) ++ r ≡ frame_bytes f ++ (flat_map frame_bytes fs ++ r)
cons_more f fs r = append_assoc (frame_bytes f) (flat_map frame_bytes fs) r

pub longest : (gs fs : List Content) (r rest : List ℕ) → flat_map frame_bytes gs ++ r ≡ flat_map frame_bytes fs ++ rest → AllByRecursion IsFrame gs → AllByRecursion IsFrame fs → is_whole rest ≡ false → (more : List Content) × (fs ≡ gs ++ more) × (r ≡ flat_map frame_bytes more ++ rest)
longest [] fs r rest e a b part = (fs, refl, e)
longest (g ∷ gs) [] r rest e a b part =
    let h : is_whole rest ≡ true = ap is_whole (sym e ∙ cons_more g gs r) ∙ frame_whole g a.0 (flat_map frame_bytes gs ++ r) in
    absurd (cc)
longest (g ∷ gs) (f ∷ fs) r rest e a b part =
    let same = sym (cons_more g gs r) ∙ e ∙ cons_more f fs rest in
    let t = longest gs fs r rest (rest_same g f a.0 b.0 (flat_map frame_bytes gs ++ r) (flat_map frame_bytes fs ++ rest) same) a.1 b.1 part in (
      t.0,
      ap (λ k. k ∷ fs) (sym (frames_same g f a.0 b.0 (flat_map frame_bytes gs ++ r) (flat_map frame_bytes fs ++ rest) same)) ∙ ap (λ (l : List Content). g ∷ l) t.1,
      t.2,
    )

no_more : (gs more fs : List Content) → fs ≡ gs ++ more → (r s : List ℕ) → r ≡ flat_map frame_bytes more ++ s → AllByRecursion IsFrame fs → is_whole r ≡ false → (fs ≡ gs) × (r ≡ s)
no_more gs [] fs e r s is all part = (e ∙ nil gs, is) where
  nil : (l : List Content) → l ++ [] ≡ l
  nil [] = refl
  nil (x ∷ l) = ap (λ (k : List Content). x ∷ k) (nil l)
no_more gs (f ∷ more) fs e r s is all part =
    let h : is_whole r ≡ true = ap is_whole (is ∙ cons_more f more s) ∙ frame_whole f (first gs (subst (λ (l : List Content). AllByRecursion IsFrame l) e all)) (flat_map frame_bytes more ++ s) in
    absurd (cc) where
      first : (l : List Content) → AllByRecursion IsFrame (l ++ f ∷ more) → IsFrame f
      first [] a = a.0
      first (x ∷ l) a = first l a.1

pub one : (x : List ℕ) (fs gs : List Content) (r s : List ℕ) → Splits x fs r → Splits x gs s → (fs ≡ gs) × (r ≡ s)
one x fs gs r s a b =
    let t = longest gs fs s r (sym b.is ∙ a.is) b.each a.each a.part in
    let u = no_more gs t.0 fs t.1 s r t.2 a.each b.part in
    (u.0, sym u.1)

-- it goes on
all_both : (fs gs : List Content) → AllByRecursion IsFrame fs → AllByRecursion IsFrame gs → AllByRecursion IsFrame (fs ++ gs)
all_both [] gs a b = b
all_both (f ∷ fs) gs a b = (a.0, all_both fs gs a.1 b)

pub goes_on : (x more : List ℕ) (fs gs : List Content) (r s : List ℕ) → Splits x fs r → Splits (r ++ more) gs s → Splits (x ++ more) (fs ++ gs) s
goes_on x more fs gs r s a b = record {
  is =
      ap (λ (l : List ℕ). l ++ more) a.is
      ∙ append_assoc (flat_map frame_bytes fs) r more
      ∙ ap (λ (l : List ℕ). flat_map frame_bytes fs ++ l) b.is
      ∙ sym (append_assoc (flat_map frame_bytes fs) (flat_map frame_bytes gs) s)
      ∙ ap (λ (l : List ℕ). l ++ s) (sym (flat_map-append frame_bytes fs gs));
  each = all_both fs gs a.each b.each;
  part = b.part;
}

-- a fault ends it
pub fault_splits : (fs : List Content) (held more : List ℕ) (e : FrameFault) → AllByRecursion IsFrame fs → fault_at held ≡ Some e → Splits (flat_map frame_bytes fs ++ (held ++ more)) fs (held ++ more) × (end_at (held ++ more) ≡ Err e)
fault_splits fs held more e all is =
    let stays = fault_stays held more e is in (
      record { is = refl; each = all; part = fault_not_whole (held ++ more) e stays },
      ap (λ (o : Option FrameFault). fault_or_cut o (held ++ more)) stays,
    )
