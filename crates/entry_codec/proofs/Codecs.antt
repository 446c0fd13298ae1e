-- Readers that take exactly the spellings: what is read is spelled so, and what is spelled is read again.
use Rattle.std.proofs.Common.{◌≡◌, ◌⊎◌, inl, inr, ⊎_elim, ℕ, suc, ◌+◌, ◌^◌, ◌<◌, ◌≤◌, ◌==◌, Bool, true, false, cond, ltb, List, [], ◌∷◌, ◌++◌, length, get_or, take, drop, Option, Some, None, refl, sym, ◌∙◌, ap, subst, append_assoc, take-append-drop, length-append, length-take, arith}
use Rattle.std.specs.Prelude.{IsTrue}
use Rattle.std.specs.Int.{Width, w16, w32, w64, byte_len, from_be_bytes, to_be_bytes}
use Rattle.std.proofs.lemmas.Bool.{cases_lt, eqb-true, ltb-false, le-ltb}
use Rattle.std.proofs.lemmas.List.{take_at, drop_at, get_or-drop, get_or_append_left, get_or_past}
use Rattle.std.proofs.lemmas.Nat.{be_bytes_2, be_bytes_4, be_bytes_8, from_be_bytes-to_be_bytes_2, from_be_bytes-to_be_bytes_4, from_be_bytes-to_be_bytes_8}
use Rattle.entry_codec.specs.Reading.{◌>>=◌, tested, piece_at, number_at, byte_at}

abbrev pub IsBytes : List ℕ → Type 0
IsBytes bytes = (i : ℕ) → get_or bytes i 0 < 256

-- a text was taken from the front
pub record Takes (bytes text rest : List ℕ) : Type 0 where
  pub parts : bytes ≡ text ++ rest
  pub fits : IsBytes rest

pub then_takes : (a x b y c : List ℕ) → Takes a x b → Takes b y c → Takes a (x ++ y) c
then_takes a x b y c p q = record { parts = p.parts ∙ ap (λ (t : List ℕ). x ++ t) q.parts ∙ sym (append_assoc x y c); fits = q.fits }

-- a text after its letter
pub lettered : (letter b : ℕ) (bytes text rest : List ℕ) → (b == letter) ≡ true → Takes bytes text rest → Takes (b ∷ bytes) (letter ∷ text) rest
lettered letter b bytes text rest is t = record { parts = ap (λ (k : ℕ). k ∷ bytes) (eqb-true b letter is) ∙ ap (λ (l : List ℕ). letter ∷ l) t.parts; fits = t.fits }

pub record Reads {A : Type 0} (text : A → List ℕ) (Fits : A → Type 0) (at : List ℕ → Option (A × List ℕ)) : Type 0 where
  pub takes : (bytes : List ℕ) (x : A × List ℕ) → IsBytes bytes → at bytes ≡ Some x → Takes bytes (text x.0) x.1 × Fits x.0
  pub again : (a : A) (rest : List ℕ) → Fits a → at (text a ++ rest) ≡ Some (a, rest)

pub some_is : {A : Type 0} (x y : A) → Some x ≡ Some y → x ≡ y
some_is x y e = cc

bind_some : {A Y : Type 0} (o : Option A) (k : A → Option Y) (y : Y) → (o >>= k) ≡ Some y → (x : A) × (o ≡ Some x) × (k x ≡ Some y)
bind_some (Some x) k y e = (x, refl, e)
bind_some None k y e = absurd cc

pub test_some : {A : Type 0} (b : Bool) (x y : A) → cond b (Some x) None ≡ Some y → (b ≡ true) × (x ≡ y)
test_some true x y e = (refl, cc)
test_some false x y e = absurd cc

-- what is read only after a test
pub chosen : {Y : Type 0} (b : Bool) (o : Option Y) (y : Y) → cond b o None ≡ Some y → (b ≡ true) × (o ≡ Some y)
chosen true o y e = (refl, e)
chosen false o y e = absurd cc

-- which of two readers read
pub either_some : {Y : Type 0} (b : Bool) (o p : Option Y) (y : Y) → cond b o p ≡ Some y → ((b ≡ true) × (o ≡ Some y)) ⊎ (p ≡ Some y)
either_some true o p y e = inl (refl, e)
either_some false o p y e = inr e

pub guard_some : {A : Type 0} (b : Bool) (x y : A) → cond b None (Some x) ≡ Some y → (b ≡ false) × (x ≡ y)
guard_some true x y e = absurd cc
guard_some false x y e = (refl, cc)

-- the first of several readings
pub step : {A Y : Type 0} (text : A → List ℕ) (Fits : A → Type 0) (at : List ℕ → Option (A × List ℕ)) → Reads text Fits at → (k : A × List ℕ → Option Y) (bytes : List ℕ) (y : Y) → IsBytes bytes → (at bytes >>= k) ≡ Some y → (x : A × List ℕ) × Takes bytes (text x.0) x.1 × Fits x.0 × (k x ≡ Some y)
step text Fits at reads k bytes y fits e =
    let b = bind_some (at bytes) k y e in
    let t = reads.takes bytes b.0 fits b.1 in
    (b.0, t.0, t.1, b.2)

pub step_again : {A Y : Type 0} (text : A → List ℕ) (Fits : A → Type 0) (at : List ℕ → Option (A × List ℕ)) → Reads text Fits at → (k : A × List ℕ → Option Y) (a : A) (rest : List ℕ) → Fits a → (at (text a ++ rest) >>= k) ≡ k (a, rest)
step_again text Fits at reads k a rest fit = ap (λ o. o >>= k) (reads.again a rest fit)

pub refit : {A : Type 0} (text : A → List ℕ) (F G : A → Type 0) (at : List ℕ → Option (A × List ℕ)) → Reads text F at → ((a : A) → F a → G a) → ((a : A) → G a → F a) → Reads text G at
refit text F G at reads f g = record {
  takes = λ bytes x fits e. let t = reads.takes bytes x fits e in (t.0, f x.0 t.1);
  again = λ a rest fit. reads.again a rest (g a fit);
}

pub tested_reads : {A : Type 0} (text : A → List ℕ) (F : A → Type 0) (at : List ℕ → Option (A × List ℕ)) (test : A → Bool) → Reads text F at → Reads text (λ a. F a × IsTrue (test a)) (λ bytes. tested test (at bytes))
tested_reads {A} text F at test reads = record {
  takes = λ bytes x fits e.
      let s = step text F at reads (λ (y : A × List ℕ). cond (test y.0) (Some y) None) bytes x fits e in
      let t = test_some (test s.0.0) s.0 x s.3 in
      subst (λ (y : A × List ℕ). Takes bytes (text y.0) y.1 × (F y.0 × IsTrue (test y.0))) t.1 (s.1, (s.2, t.0));
  again = λ a rest fit. step_again text F at reads (λ (y : A × List ℕ). cond (test y.0) (Some y) None) a rest fit.0 ∙ ap (λ b. cond b (Some (a, rest)) None) fit.1;
}

bytes_take : (n : ℕ) (bytes rest : List ℕ) → IsBytes bytes → IsBytes (drop n bytes)
bytes_take n bytes rest h i = rw get_or-drop (h (n + i))

front_bytes : (a b : List ℕ) → IsBytes (a ++ b) → IsBytes a
front_bytes a b h i = ⊎_elim
    (λ lt. omega (arith, h i, get_or_append_left a b 0 i lt))
    (λ le. omega (arith, get_or_past a i 0 le))
    (cases_lt i (length a))

pub piece_reads : (n : ℕ) → Reads (λ (p : List ℕ). p) (λ p. length p ≡ n) (piece_at n)
piece_reads n = record {
  takes = λ bytes x fits e.
      let g = guard_some (ltb (length bytes) n) (take n bytes, drop n bytes) x e in
      let long : n ≤ length bytes = ltb-false _ _ g.0 in
      subst (λ (y : List ℕ × List ℕ). Takes bytes y.0 y.1 × (length y.0 ≡ n)) g.1 (record { parts = sym (take-append-drop n bytes); fits = bytes_take n bytes [] fits }, omega (arith, length-take n bytes));
  again = λ p rest fit.
      let long : ltb (length (p ++ rest)) n ≡ false = le-ltb _ _ (omega (arith, length-append p rest, fit)) in
      rw (long, take_at p rest n fit, drop_at p rest n fit) refl;
}

pub byte_reads : Reads (λ (b : ℕ). b ∷ []) (λ b. b < 256) byte_at
byte_reads = record { takes = byte_takes; again = λ b rest fit. refl }
  where
    byte_takes : (bytes : List ℕ) (x : ℕ × List ℕ) → IsBytes bytes → byte_at bytes ≡ Some x → Takes bytes (x.0 ∷ []) x.1 × (x.0 < 256)
    byte_takes [] x fits e = absurd cc
    byte_takes (b ∷ bytes) x fits e = subst (λ (y : ℕ × List ℕ). Takes (b ∷ bytes) (y.0 ∷ []) y.1 × (y.0 < 256)) (some_is (b, bytes) x e) (record { parts = refl; fits = λ i. fits (suc i) }, fits 0)

pub record IsWide (w : Width) (limit : ℕ) : Type 0 where
  pub len : (n : ℕ) → length (to_be_bytes w n) ≡ byte_len w
  pub back : (bytes : List ℕ) → length bytes ≡ byte_len w → IsBytes bytes → to_be_bytes w (from_be_bytes w bytes) ≡ bytes
  pub again : (n : ℕ) → n < limit → from_be_bytes w (to_be_bytes w n) ≡ n
  pub below : (bytes : List ℕ) → IsBytes bytes → from_be_bytes w bytes < limit

wide16 : IsWide w16 (2 ^ 16)
wide16 = record {
  len = λ n. refl;
  back = λ bytes len fits. be_bytes_2 bytes _ len fits refl;
  again = λ n lt. from_be_bytes-to_be_bytes_2 n lt;
  below = λ bytes fits. omega (arith, fits 0, fits 1);
}

wide32 : IsWide w32 (2 ^ 32)
wide32 = record {
  len = λ n. refl;
  back = λ bytes len fits. be_bytes_4 bytes _ len fits refl;
  again = λ n lt. from_be_bytes-to_be_bytes_4 n lt;
  below = λ bytes fits. omega (arith, fits 0, fits 1, fits 2, fits 3);
}

wide64 : IsWide w64 (2 ^ 64)
wide64 = record {
  len = λ n. refl;
  back = λ bytes len fits. be_bytes_8 bytes _ len fits refl;
  again = λ n lt. from_be_bytes-to_be_bytes_8 n lt;
  below = λ bytes fits. omega (arith, fits 0, fits 1, fits 2, fits 3, fits 4, fits 5, fits 6, fits 7);
}

number_reads : (w : Width) (limit : ℕ) → IsWide w limit → Reads (to_be_bytes w) (λ n. n < limit) (number_at w)
number_reads w limit wide = record {
  takes = λ bytes x fits e.
      let s = step (λ (p : List ℕ). p) (λ p. length p ≡ byte_len w) (piece_at (byte_len w)) (piece_reads (byte_len w)) (λ (y : List ℕ × List ℕ). Some (from_be_bytes w y.0, y.1)) bytes x fits e in
      let front : IsBytes s.0.0 = front_bytes s.0.0 s.0.1 (subst IsBytes s.1.parts fits) in
      subst (λ (y : ℕ × List ℕ). Takes bytes (to_be_bytes w y.0) y.1 × (y.0 < limit)) (some_is (from_be_bytes w s.0.0, s.0.1) x s.3)
      (record { parts = s.1.parts ∙ ap (λ (t : List ℕ). t ++ s.0.1) (sym (wide.back s.0.0 s.2 front)); fits = s.1.fits }, wide.below s.0.0 front);
  again = λ n rest fit.
      step_again (λ (p : List ℕ). p) (λ p. length p ≡ byte_len w) (piece_at (byte_len w)) (piece_reads (byte_len w)) (λ (y : List ℕ × List ℕ). Some (from_be_bytes w y.0, y.1)) (to_be_bytes w n) rest (wide.len n)
      ∙ ap (λ k. Some (k, rest)) (wide.again n fit);
}

pub reads16 : Reads (to_be_bytes w16) (λ n. n < 2 ^ 16) (number_at w16)
reads16 = number_reads w16 (2 ^ 16) wide16

pub reads32 : Reads (to_be_bytes w32) (λ n. n < 2 ^ 32) (number_at w32)
reads32 = number_reads w32 (2 ^ 32) wide32

pub reads64 : Reads (to_be_bytes w64) (λ n. n < 2 ^ 64) (number_at w64)
reads64 = number_reads w64 (2 ^ 64) wide64
