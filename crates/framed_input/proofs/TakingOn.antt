-- What calls took, one after another.
use Rattle.std.proofs.Common.{◌≡◌, ◌⊎◌, ⊎_elim, ℕ, ◌-◌, ◌<◌, ◌≤◌, Bool, true, false, nat_lt, List, [], ◌++◌, length, take, drop, Option, Some, None, refl, sym, ◌∙◌, ap, subst, arith, append-nil, append_assoc, length-append, take-append-drop}
use Rattle.std.specs.Io.KnownBytes.{Keeps}
use Rattle.std.proofs.KnownBytes.{Consumes-nil, Consumes-trans, Consumes-kept}
use Rattle.std.proofs.lemmas.Bool.{lt-ltb, cases_lt}
use Rattle.std.proofs.lemmas.List.{take_all, take-append-le}
use Rattle.link_frames.specs.declared.fault.FrameFault.{FrameFault}
use Rattle.link_frames.specs.Splits.{fault_at, is_whole}
use Rattle.link_frames.proofs.Fronts.{take_more_of}
use Rattle.framed_input.specs.Intake.{Intake}
use Rattle.framed_input.specs.Standing.{stands, standing, standing_by}
use Rattle.framed_input.specs.Taking.{Takes, TakesPiece}
use Rattle.framed_input.proofs.Fronts.{nothing_from, nothing_front}

-- where nothing stands that answers, nothing stands at the front and no more than the limit was taken
pub record Open (limit : ℕ) (now : Intake) : Type 0 where
  pub nothing : stands now.held ≡ false
  pub within : now.taken ≤ limit

open_by : (o : Option FrameFault) (whole beyond : Bool) → standing_by o whole beyond ≡ None → (o ≡ None) × (whole ≡ false) × (beyond ≡ false)
open_by None false false e = (refl, refl, refl)
open_by None false true e = absurd (cc)
open_by None true beyond e = absurd (cc)
open_by (Some f) whole beyond e = absurd (cc)

within_by : (limit taken : ℕ) → nat_lt limit taken ≡ false → taken ≤ limit
within_by limit taken e = ⊎_elim (λ (lt : limit < taken). let h = lt-ltb limit taken lt in absurd (cc)) (λ le. le) (cases_lt limit taken)

pub open_from : (limit : ℕ) (now : Intake) → standing limit now ≡ None → Open limit now
open_from limit now e =
    let h = open_by (fault_at now.held) (is_whole now.held) (nat_lt limit now.taken) e in
    record { nothing = nothing_from now.held h.1 h.0; within = within_by limit now.taken h.2 }

pub none_taken : (limit : ℕ) (left : Option (List ℕ)) (now : Intake) → Takes limit left left now now
none_taken limit left now = record {
  more = [];
  source = Consumes-nil left;
  counted = omega arith;
  grew = sym (ap (λ (l : List ℕ). now.held ++ l) (take_all {A = ℕ} (limit - now.taken) [] (omega arith)) ∙ append-nil now.held);
  few = λ lt. absurd (omega (arith, lt));
}

module _ (limit n : ℕ) (a b c : Option (List ℕ)) (old mid new : Intake) (t : Takes limit a b old mid) (p : TakesPiece limit n b c mid new) (none : standing limit mid ≡ None) where
  here : Open limit mid
  here = open_from limit mid none

  held : mid.held ≡ old.held ++ t.more
  held = t.grew ∙ ap (λ (l : List ℕ). old.held ++ l) (take_all (limit - old.taken) t.more (omega (arith, t.counted, here.within)))

  quiet : (k : ℕ) → k ≤ length t.more → stands (old.held ++ take k (t.more ++ p.piece)) ≡ false
  quiet k le =
      ap (λ (l : List ℕ). stands (old.held ++ l)) (take-append-le k t.more p.piece le)
      ∙ nothing_front (old.held ++ take k t.more) (drop k t.more)
      (ap stands (append_assoc old.held (take k t.more) (drop k t.more) ∙ ap (λ (l : List ℕ). old.held ++ l) (take-append-drop k t.more) ∙ sym held) ∙ here.nothing)

  pub takes_on : Takes limit a c old new
  takes_on = record {
    more = t.more ++ p.piece;
    source = Consumes-trans a b c t.more p.piece t.source p.source;
    counted = omega (arith, t.counted, p.counted, p.long, length-append t.more p.piece);
    grew =
        p.grew
        ∙ ap (λ (l : List ℕ). l ++ take (limit - mid.taken) p.piece) t.grew
        ∙ append_assoc old.held (take (limit - old.taken) t.more) (take (limit - mid.taken) p.piece)
        ∙ ap (λ k. old.held ++ (take (limit - old.taken) t.more ++ take k p.piece)) (let e : limit - mid.taken ≡ limit - old.taken - length t.more = omega (arith, t.counted) in e)
        ∙ ap (λ (l : List ℕ). old.held ++ l) (sym (take_more_of (limit - old.taken) t.more p.piece));
    few = λ lt. quiet (length (t.more ++ p.piece) - 4096) (omega (arith, length-append t.more p.piece, p.long, p.few));
  }

-- a read that failed took nothing
pub takes_failed : (limit : ℕ) (a b c : Option (List ℕ)) (old mid : Intake) → Takes limit a b old mid → Keeps b c → Takes limit a c old mid
takes_failed limit a b c old mid t keeps = record {
  more = t.more;
  source = Consumes-kept a b c t.more t.source keeps;
  counted = t.counted;
  grew = t.grew;
  few = t.few;
}

-- where something stood from the start, no call reads
pub stood : (limit : ℕ) (first mid : Intake) (P : Type 0) → standing limit mid ≡ None → (stands first.held ≡ true) ⊎ (limit < first.taken) → mid ≡ first → P
stood limit first mid P none either same =
    let here : Open limit first = subst (λ (r : Intake). Open limit r) same (open_from limit mid none) in
    let quiet = here.nothing in
    ⊎_elim
    (λ (stand : stands first.held ≡ true). absurd (cc))
    (λ (beyond : limit < first.taken). absurd (omega (arith, beyond, here.within)))
    either
