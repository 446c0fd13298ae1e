-- The frame that bytes are, and a frame that bytes begin.
use Rattle.std.proofs.Common.{◌≡◌, ℕ, zero, suc, ◌+◌, ◌<◌, ◌≤◌, ◌==◌, Bool, true, false, List, [], ◌∷◌, ◌++◌, length, take, drop, get_or, if◌then◌else◌, Option, Some, None, is_some, refl, sym, ◌∙◌, ap, subst, arith, length-drop, take-append-drop}
use Rattle.std.specs.Int.{to_be_bytes, w32}
use Rattle.std.specs.List.{list_all}
use Rattle.std.proofs.lemmas.Bool.{eqb-true}
use Rattle.std.proofs.lemmas.List.{drop-drop, length-take-le}
use Rattle.std.proofs.lemmas.Nat.{be_bytes_4}
use Rattle.faim_base.specs.Text.{is_name_byte}
use Rattle.link_frames.specs.declared.fault.FrameFault.{FrameFault}
use Rattle.link_frames.specs.declared.fault.FrameFault.TheVariants.{BadKind, BadEndpoint}
use Rattle.link_frames.specs.declared.frame.FrameKind.{FrameKind}
use Rattle.link_frames.specs.declared.frame.FrameKind.TheVariants.{Submit, Retrieve, Ack, Output, Roll, Draft, Tick}
use Rattle.link_frames.specs.Frames.{Content, IsFrame, frame_bytes}
use Rattle.link_frames.specs.Kinds.{kind_byte, kind_of}
use Rattle.link_frames.specs.Splits.{AreBytes, fault_at, kind_fault, length_at, size_at}
use Rattle.link_frames.proofs.Fronts.{no_fault, sized}

-- bytes of parts
pub bytes_left : (a b : List ℕ) → AreBytes (a ++ b) → AreBytes a
bytes_left [] b h i = omega arith
bytes_left (x ∷ a) b h zero = h zero
bytes_left (x ∷ a) b h (suc i) = bytes_left a b (λ j. h (suc j)) i

pub bytes_right : (a b : List ℕ) → AreBytes (a ++ b) → AreBytes b
bytes_right [] b h = h
bytes_right (x ∷ a) b h = bytes_right a b (λ j. h (suc j))

pub bytes_both : (a b : List ℕ) → AreBytes a → AreBytes b → AreBytes (a ++ b)
bytes_both [] b g h i = h i
bytes_both (x ∷ a) b g h zero = g zero
bytes_both (x ∷ a) b g h (suc i) = bytes_both a b (λ j. g (suc j)) h i

pub bytes_taken : (n : ℕ) (x : List ℕ) → AreBytes x → AreBytes (take n x)
bytes_taken n x h = bytes_left (take n x) (drop n x) (subst AreBytes (sym (take-append-drop n x)) h)

-- kinds and their bytes
pub kind_written : (k : FrameKind) → kind_of (kind_byte k) ≡ Some k
kind_written Submit = refl
kind_written Retrieve = refl
kind_written Ack = refl
kind_written Output = refl
kind_written Roll = refl
kind_written Draft = refl
kind_written Tick = refl

kind_step : (test : Bool) (b n : ℕ) (k found : FrameKind) (rest : Option FrameKind) → (n == b) ≡ test → kind_byte k ≡ n → (rest ≡ Some found → kind_byte found ≡ b) → (if test then Some k else rest) ≡ Some found → kind_byte found ≡ b
kind_step true b n k found rest same byte on f = let e : k ≡ found = cc in ap kind_byte (sym e) ∙ byte ∙ eqb-true n b same
kind_step false b n k found rest same byte on f = on f

pub kind_read : (b : ℕ) (k : FrameKind) → kind_of b ≡ Some k → kind_byte k ≡ b
kind_read b k =
    kind_step (1 == b) b 1 Submit k _ refl refl
    (kind_step (2 == b) b 2 Retrieve k _ refl refl
    (kind_step (3 == b) b 3 Ack k _ refl refl
    (kind_step (4 == b) b 4 Output k _ refl refl
    (kind_step (5 == b) b 5 Roll k _ refl refl
    (kind_step (6 == b) b 6 Draft k _ refl refl
    (kind_step (7 == b) b 7 Tick k None refl refl
    (λ f. absurd (cc))))))))

pub some_from : (o : Option FrameKind) → is_some o ≡ true → (k : FrameKind) × (o ≡ Some k)
some_from None e = absurd (cc)
some_from (Some k) e = (k, refl)

-- bytes at the place of the kind without a fault
abbrev no_one : Option FrameFault
no_one = None

kind_parts : (known named : Bool) (k : ℕ) → (if known then (if named then None else Some BadEndpoint) else Some (BadKind k)) ≡ no_one → (known ≡ true) × (named ≡ true)
kind_parts true true k e = (refl, refl)
kind_parts true false k e = absurd (cc)
kind_parts false named k e = absurd (cc)

pub kind_clean : (k : ℕ) (rest : List ℕ) → kind_fault (k ∷ rest) ≡ None → (is_some (kind_of k) ≡ true) × (list_all is_name_byte (take 8 rest) ≡ true)
kind_clean k rest e = kind_parts (is_some (kind_of k)) (list_all is_name_byte (take 8 rest)) k e

pub kind_clean_from : (k : ℕ) (rest : List ℕ) → is_some (kind_of k) ≡ true → list_all is_name_byte (take 8 rest) ≡ true → kind_fault (k ∷ rest) ≡ None
kind_clean_from k rest known named =
    ap (λ (b : Bool). if b then (if list_all is_name_byte (take 8 rest) then None else Some BadEndpoint) else Some (BadKind k)) known
    ∙ ap (λ (b : Bool). if b then None else Some BadEndpoint) named

pub cons_at : (x : List ℕ) (n : ℕ) → n < length x → drop n x ≡ get_or x n 0 ∷ drop (suc n) x
cons_at [] n lt = absurd (omega (arith, lt))
cons_at (a ∷ x) zero lt = refl
cons_at (a ∷ x) (suc n) lt = cons_at x n (omega (arith, lt))

-- bytes that are as many as their length says, and show no fault
module _ (x : List ℕ) (four : 4 ≤ length x) (clean : fault_at x ≡ None) (exact : length x ≡ size_at x) (bytes : AreBytes x) where
  sizes : (13 ≤ length x) × (length x ≤ 8205)
  sizes = let s = sized x four clean in (omega (arith, s.0, exact), omega (arith, s.1, exact))

  parts : drop 4 x ≡ get_or x 4 0 ∷ drop 5 x
  parts = cons_at x 4 (omega (arith, sizes.0))

  pub kind_known : (is_some (kind_of (get_or x 4 0)) ≡ true) × (list_all is_name_byte (take 8 (drop 5 x)) ≡ true)
  kind_known = kind_clean (get_or x 4 0) (drop 5 x) (ap kind_fault (sym parts) ∙ (no_fault x four clean).1)

  number : to_be_bytes w32 (9 + length (drop 13 x)) ≡ take 4 x
  number = be_bytes_4 (take 4 x) (9 + length (drop 13 x)) (length-take-le 4 x four) (bytes_taken 4 x bytes) (let e : 9 + length (drop 13 x) ≡ length_at x = omega (arith, exact, sizes.0, length-drop 13 x) in e)

  pub framed : (kind : FrameKind) → kind_of (get_or x 4 0) ≡ Some kind → frame_bytes (record { kind = kind; endpoint = take 8 (drop 5 x); payload = drop 13 x }) ≡ x
  framed kind is =
      ap (λ (l : List ℕ). l ++ kind_byte kind ∷ (take 8 (drop 5 x) ++ drop 13 x)) number
      ∙ ap (λ k. take 4 x ++ k ∷ (take 8 (drop 5 x) ++ drop 13 x)) (kind_read (get_or x 4 0) kind is)
      ∙ ap (λ (l : List ℕ). take 4 x ++ get_or x 4 0 ∷ (take 8 (drop 5 x) ++ l)) (sym (drop-drop 8 5 x))
      ∙ ap (λ (l : List ℕ). take 4 x ++ get_or x 4 0 ∷ l) (take-append-drop 8 (drop 5 x))
      ∙ ap (λ (l : List ℕ). take 4 x ++ l) (sym parts)
      ∙ take-append-drop 4 x

  pub is_frame : (kind : FrameKind) → IsFrame (record { kind = kind; endpoint = take 8 (drop 5 x); payload = drop 13 x })
  is_frame kind = record {
    endpoint = (length-take-le 8 (drop 5 x) (omega (arith, sizes.0, length-drop 5 x)), kind_known.1);
    payload = omega (arith, sizes.1, length-drop 13 x);
  }

  pub frame_there : (f : Content) × IsFrame f × (frame_bytes f ≡ x)
  frame_there = let k = some_from (kind_of (get_or x 4 0)) kind_known.0 in (record { kind = k.0; endpoint = take 8 (drop 5 x); payload = drop 13 x }, is_frame k.0, framed k.0 k.1)

-- the frame that a reader of the parts finds
pub record Found (x : List ℕ) (kind : FrameKind) (endpoint payload : List ℕ) : Type 0 where
  pub kind_is : Some kind ≡ kind_of (get_or x 4 0)
  pub endpoint_is : endpoint ≡ take 8 (drop 5 x)
  pub payload_is : payload ≡ drop 13 x

pub found : (x : List ℕ) (kind : FrameKind) (endpoint payload : List ℕ) → Found x kind endpoint payload → 4 ≤ length x → fault_at x ≡ None → length x ≡ size_at x → AreBytes x
    → (frame_bytes (record { kind = kind; endpoint = endpoint; payload = payload }) ≡ x) × IsFrame (record { kind = kind; endpoint = endpoint; payload = payload })
found x kind endpoint payload is four clean exact bytes =
    let P : List ℕ → List ℕ → Type 0 = λ e p. (frame_bytes (record { kind = kind; endpoint = e; payload = p }) ≡ x) × IsFrame (record { kind = kind; endpoint = e; payload = p }) in
    subst (λ (e : List ℕ). P e payload) (sym is.endpoint_is) (subst (λ (p : List ℕ). P (take 8 (drop 5 x)) p) (sym is.payload_is)
    (framed x four clean exact bytes kind (sym is.kind_is), is_frame x four clean exact bytes kind))
