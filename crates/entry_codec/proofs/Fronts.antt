-- What stands at the front of bytes, for a reader that takes exactly the spellings.
use Rattle.std.proofs.Common.{◌≡◌, ℕ, ◌-◌, ◌≤◌, List, ◌++◌, length, take, Option, Some, None, refl, sym, ◌∙◌, ap, length-append, arith}
use Rattle.std.proofs.lemmas.List.{take_at}
use Rattle.entry_codec.specs.declared.fault.CodecFault.{CodecFault}
use Rattle.entry_codec.specs.declared.fault.CodecFault.TheVariants as faults
use Rattle.entry_codec.specs.Reading.{Fails}
use Rattle.entry_codec.proofs.Codecs.{IsBytes, Takes, Reads, some_is}

none_read : {Y : Type 0} (y : Y) (o : Option Y) → o ≡ None → o ≡ Some y → ⊥
none_read y o none some = cc

module _ {A : Type 0} (text : A → List ℕ) (Fits : A → Type 0) (at : List ℕ → Option (A × List ℕ)) (again : (a : A) (rest : List ℕ) → Fits a → at (text a ++ rest) ≡ Some (a, rest)) where
  -- no spelling begins another
  pub one_front : (a b : A) (x y : List ℕ) → Fits a → Fits b → text a ++ x ≡ text b ++ y → (a ≡ b) × (x ≡ y)
  one_front a b x y fa fb same =
      let e = some_is (a, x) (b, y) (sym (again a x fa) ∙ ap at same ∙ again b y fb) in
      (ap (λ (p : A × List ℕ). p.0) e, ap (λ (p : A × List ℕ). p.1) e)

  -- no spelling stands at the front of bytes that aren't read
  pub not_damaged : (fault : CodecFault) (bytes : List ℕ) → Fails fault (at bytes) → (a : A) (more : List ℕ) → Fits a → bytes ≡ text a ++ more → fault ≡ faults.NoMemory
  not_damaged faults.NoMemory bytes fails a more fit same = refl
  not_damaged faults.Damaged bytes fails a more fit same = absurd (none_read (a, more) (at bytes) fails (ap at same ∙ again a more fit))

-- what was read, and how many bytes it takes
module _ {A : Type 0} (text : A → List ℕ) (Fits : A → Type 0) (at : List ℕ → Option (A × List ℕ)) (reads : Reads text Fits at) (bytes : List ℕ) (e : A) (rest : List ℕ) (fits : IsBytes bytes) (read : at bytes ≡ Some (e, rest)) where
  abbrev taken : Takes bytes (text e) rest × Fits e
  taken = reads.takes bytes (e, rest) fits read

  pub shorter : length rest ≤ length bytes
  shorter = omega (arith, ap length taken.0.parts, length-append (text e) rest)

  pub found : (n : ℕ) → n ≡ length bytes - length rest → Fits e × (take n bytes ≡ text e) × (n ≤ length bytes)
  found n is =
      let long : length (text e) ≡ n = omega (arith, is, ap length taken.0.parts, length-append (text e) rest) in
      (taken.1, ap (λ (l : List ℕ). take n l) taken.0.parts ∙ take_at (text e) rest n long, omega (arith, is))

  pub only : (n : ℕ) → n ≡ length bytes - length rest → (a : A) (more : List ℕ) → Fits a → bytes ≡ text a ++ more → (e ≡ a) × (n ≡ length (text a))
  only n is a more fit same =
      let both = one_front text Fits at reads.again e a rest more taken.1 fit (sym taken.0.parts ∙ same) in
      (both.0, omega (arith, is, ap length same, length-append (text a) more, ap length both.1))
