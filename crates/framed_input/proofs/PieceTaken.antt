-- One read of a source where nothing stands yet.
use Rattle.std.proofs.Common.{◌≡◌, ℕ, ◌+◌, ◌-◌, ◌≤◌, min, max, List, [], ◌∷◌, ◌++◌, length, take, Option, None, refl, sym, ◌∙◌, ap, subst, arith, append-nil}
use Rattle.std.specs.Io.KnownBytes.{Consumes}
use Rattle.std.proofs.lemmas.List.{length-take-le, take_all}
use Rattle.link_frames.specs.declared.fault.FrameFault.{FrameFault}
use Rattle.framed_input.specs.Feeding.{Settled, Feeds}
use Rattle.framed_input.specs.Intake.{Intake, part}
use Rattle.framed_input.specs.Limits.{greatest_input, greatest_piece}
use Rattle.framed_input.specs.Standing.{KeepsLimit, stands, standing}
use Rattle.framed_input.specs.Taking.{TakesPiece}
use Rattle.framed_input.proofs.Settling.{settled_all, Adds, adds}
use Rattle.framed_input.proofs.TakingOn.{Open, open_from}

abbrev intake : List ℕ → ℕ → Intake
intake held taken = record { held = held; taken = taken }

module _ (fed unfed : List ℕ) (number taken limit : ℕ) (fault : Option FrameFault) (s : Settled fed unfed number fault) (k : KeepsLimit (intake (fed ++ unfed) taken)) (none : standing limit (intake (fed ++ unfed) taken) ≡ None) where
  here : Open limit (intake (fed ++ unfed) taken)
  here = open_from limit (intake (fed ++ unfed) taken) none

  pub empty : unfed ≡ []
  empty = settled_all fed unfed number fault s here.nothing

  -- where the read failed nothing changes, whatever it left in the buffer
  pub unread : (other : List ℕ) → other ≡ [] → Settled fed other number fault × KeepsLimit (intake (fed ++ other) taken) × (intake (fed ++ other) taken ≡ intake (fed ++ unfed) taken)
  unread other nought =
      let same : unfed ≡ other = empty ∙ sym nought in (
        subst (λ (l : List ℕ). Settled fed l number fault) same s,
        subst (λ (l : List ℕ). KeepsLimit (intake (fed ++ l) taken)) same k,
        ap (λ (l : List ℕ). intake (fed ++ l) taken) (sym same),
      )

  module _ (piece new buffer : List ℕ) (n kept count : ℕ) (found : Option FrameFault) (is : piece ≡ take kept buffer) (least : kept ≡ min n (limit - taken)) (room : n ≤ max 1 (min (limit - taken) greatest_piece)) (long : length buffer ≡ greatest_piece) (f : Feeds fed piece new count found) where
    pub added : Adds fed unfed new buffer number count kept (limit - taken) n found
    added = adds fed unfed piece new buffer number count kept (limit - taken) n found empty s.counted is least (omega (arith, room, long)) f

    pub keeps : limit ≤ greatest_input → KeepsLimit (intake (new ++ part buffer count kept) (taken + n))
    keeps within = record {
      most = omega (arith, room, within, here.within);
      none = λ beyond.
          let nought : kept ≡ 0 = omega (arith, beyond, room, within, here.within, least) in
          ap stands (added.same nought) ∙ here.nothing;
    }

    pub takes : (left rest : Option (List ℕ)) → Consumes left rest (take n buffer) → TakesPiece limit n left rest (intake (fed ++ unfed) taken) (intake (new ++ part buffer count kept) (taken + n))
    takes left rest consumes = record {
      piece = take n buffer;
      long = length-take-le n buffer (omega (arith, room, long));
      source = consumes;
      counted = omega arith;
      grew = added.all;
      few = omega (arith, room);
      most = omega (arith, room, here.within);
    }

-- a read of no bytes changes nothing that is held
none_long : (l : List ℕ) → length l ≡ 0 → l ≡ []
none_long [] e = refl
none_long (b ∷ l) e = absurd (omega (arith, e))

pub none_came : (limit n : ℕ) (left rest : Option (List ℕ)) (old new : Intake) → n ≡ 0 → TakesPiece limit n left rest old new → Open limit old → Open limit new
none_came limit n left rest old new nought t o =
    let nil : t.piece ≡ [] = none_long t.piece (t.long ∙ nought) in
    let held : new.held ≡ old.held =
    t.grew
    ∙ ap (λ (l : List ℕ). old.held ++ take (limit - old.taken) l) nil
    ∙ ap (λ (l : List ℕ). old.held ++ l) (take_all {A = ℕ} (limit - old.taken) [] (omega arith))
    ∙ append-nil old.held in
    record {
      nothing = ap stands held ∙ o.nothing;
      within = omega (arith, t.counted, nought, o.within);
    }
