-- What all bytes spell, for a reader that takes exactly the spellings.
use Rattle.std.proofs.Common.{◌≡◌, ◌↔◌, ℕ, ◌==◌, Bool, true, false, List, [], ◌∷◌, ◌++◌, length, Option, Some, refl, sym, ◌∙◌, ap, subst, arith}
use Rattle.std.specs.Prelude.{IsTrue}
use Rattle.std.proofs.lemmas.List.{append-nil}
use Rattle.entry_codec.specs.declared.fault.CodecFault.{CodecFault}
use Rattle.entry_codec.specs.declared.fault.CodecFault.TheVariants as faults
use Rattle.entry_codec.specs.Reading.{Fails}
use Rattle.entry_codec.proofs.Codecs.{IsBytes, Reads, some_is}
use Rattle.entry_codec.proofs.Fronts.{not_damaged}

none_left : (rest : List ℕ) → length rest ≡ 0 → rest ≡ []
none_left [] e = refl
none_left (b ∷ rest) e = absurd (omega (arith, e))

pub none_left_over : (rest : List ℕ) → rest ≡ [] → false ≡ (length rest == 0) → ⊥
none_left_over rest none some =
    let empty : (length rest == 0) ≡ true = ap (λ (l : List ℕ). length l == 0) none in
    cc

-- what the spelling of a sound value is read as is sound
pub not_unsound : {A : Type 0} (IsSound : A → Type 0) (test : Bool) (read a : A) → read ≡ a → IsSound a → IsTrue test ↔ IsSound read → test ≡ false → ⊥
not_unsound IsSound test read a same sound both unsound = let yes : test ≡ true = both.1 (subst IsSound (sym same) sound) in cc

module _ {A : Type 0} (text : A → List ℕ) (Fits : A → Type 0) (at : List ℕ → Option (A × List ℕ)) (reads : Reads text Fits at) where
  pub found_whole : (bytes : List ℕ) (e : A) (rest : List ℕ) → IsBytes bytes → at bytes ≡ Some (e, rest) → length rest ≡ 0 → bytes ≡ text e
  found_whole bytes e rest fits read none =
      let t = reads.takes bytes (e, rest) fits read in
      t.0.parts ∙ ap (λ (l : List ℕ). text e ++ l) (none_left rest none) ∙ append-nil (text e)

  -- nothing stands after the spelling
  alone : (bytes : List ℕ) (a : A) → bytes ≡ text a → bytes ≡ text a ++ []
  alone bytes a same = same ∙ sym (append-nil (text a))

  -- bytes that spell a value are read as it, and nothing is left
  pub only_whole : (bytes : List ℕ) (e : A) (rest : List ℕ) → at bytes ≡ Some (e, rest) → (a : A) → Fits a → bytes ≡ text a → (e ≡ a) × (rest ≡ [])
  only_whole bytes e rest read a fit same =
      let both = some_is (e, rest) (a, []) (sym read ∙ ap at (alone bytes a same) ∙ reads.again a [] fit) in
      (ap (λ (p : A × List ℕ). p.0) both, ap (λ (p : A × List ℕ). p.1) both)

  -- bytes that aren't read spell nothing
  pub not_damaged_whole : (fault : CodecFault) (bytes : List ℕ) → Fails fault (at bytes) → (a : A) → Fits a → bytes ≡ text a → fault ≡ faults.NoMemory
  not_damaged_whole fault bytes fails a fit same = not_damaged text Fits at reads.again fault bytes fails a [] fit (alone bytes a same)
