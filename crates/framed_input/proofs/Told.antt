-- What the answers say of what is held.
use Rattle.std.proofs.Common.{◌≡◌, ◌≢◌, ◌↔◌, ⊎_elim, ℕ, ◌<◌, ◌≤◌, Bool, true, false, nat_lt, List, [], ◌∷◌, length, Option, Some, None, refl, sym, ◌∙◌, ap, subst, arith}
use Rattle.std.specs.Prelude.{Result, Ok, Err}
use Rattle.std.specs.Io.KnownBytes.{IsAtEnd}
use Rattle.std.proofs.lemmas.Bool.{cases_lt, le-ltb}
use Rattle.link_frames.specs.declared.fault.FrameFault.{FrameFault}
use Rattle.link_frames.specs.declared.fault.FrameFault.TheVariants.{CutFrame}
use Rattle.link_frames.specs.Splits.{fault_at, is_whole, fault_or_cut, end_at}
use Rattle.link_frames.proofs.Fronts.{fault_not_whole}
use Rattle.link_frames.proofs.Telling.{no_cut}
use Rattle.framed_input.specs.declared.ends.InputEnd.{InputEnd}
use Rattle.framed_input.specs.declared.ends.InputEnd.TheVariants.{ReadFault, Frame, TooLong}
use Rattle.framed_input.specs.Intake.{Intake}
use Rattle.framed_input.specs.Standing.{stands, standing, standing_by, ended, ended_by}
use Rattle.framed_input.specs.Taking.{Answers}
use Rattle.framed_input.proofs.Fronts.{nothing, nothing_from}
use Rattle.framed_input.proofs.TakingOn.{Open}

-- all that an answer says, beside whether a read failed
pub record Says (limit : ℕ) (now : Intake) (rest : Option (List ℕ)) (answer : Result Bool InputEnd) : Type 0 where
  pub answers : Answers answer now.held rest
  pub too_long : (answer ≡ Err TooLong) ↔ ((stands now.held ≡ false) × (limit < now.taken))

beyond_by : (limit taken : ℕ) → nat_lt limit taken ≡ true → limit < taken
beyond_by limit taken e = ⊎_elim (λ (lt : limit < taken). lt) (λ (le : taken ≤ limit). let h = le-ltb limit taken le in absurd (cc)) (cases_lt limit taken)

module _ (limit : ℕ) (now : Intake) (rest : Option (List ℕ)) where
  says_fault : (e : FrameFault) → fault_at now.held ≡ Some e → Says limit now rest (Err (Frame e))
  says_fault e shown = record {
    answers = record {
      frame = (λ is. absurd (cc), λ w. let h = fault_not_whole now.held e shown in absurd (cc));
      fault = λ f other. let same : e ≡ f = cc in ap (λ x. Err (Frame x)) same;
      bad = λ f is. let same : e ≡ f = cc in ap (λ (o : Option FrameFault). fault_or_cut o now.held) shown ∙ ap (λ x. Err x) same;
      cut = λ n is. let same : e ≡ CutFrame n = cc in absurd (no_cut now.held n (shown ∙ ap (λ x. Some x) same));
      done = λ is. absurd (cc);
    };
    too_long = (λ is. absurd (cc), λ h. let c = (nothing now.held h.0).clean in absurd (cc));
  }

  says_whole : is_whole now.held ≡ true → fault_at now.held ≡ None → Says limit now rest (Ok true)
  says_whole w none = record {
    answers = record {
      frame = (λ is. w, λ is. refl);
      fault = λ f other. absurd (cc);
      bad = λ f is. absurd (cc);
      cut = λ n is. absurd (cc);
      done = λ is. absurd (cc);
    };
    too_long = (λ is. absurd (cc), λ h. let c = (nothing now.held h.0).part in absurd (cc));
  }

  says_long : is_whole now.held ≡ false → fault_at now.held ≡ None → limit < now.taken → Says limit now rest (Err TooLong)
  says_long part clean lt = record {
    answers = record {
      frame = (λ is. absurd (cc), λ w. absurd (cc));
      fault = λ f other. absurd (cc);
      bad = λ f is. absurd (cc);
      cut = λ n is. absurd (cc);
      done = λ is. absurd (cc);
    };
    too_long = (λ is. (nothing_from now.held part clean, lt), λ h. refl);
  }

  by_parts : (o : Option FrameFault) (w l : Bool) (answer : Result Bool InputEnd) → fault_at now.held ≡ o → is_whole now.held ≡ w → nat_lt limit now.taken ≡ l
      → standing_by o w l ≡ Some answer → Says limit now rest answer
  by_parts (Some e) w l answer shown whole beyond is =
      let same : Err (Frame e) ≡ answer = cc in subst (λ (r : Result Bool InputEnd). Says limit now rest r) same (says_fault e shown)
  by_parts None true l answer shown whole beyond is =
      let same : Ok true ≡ answer = cc in subst (λ (r : Result Bool InputEnd). Says limit now rest r) same (says_whole whole shown)
  by_parts None false true answer shown whole beyond is =
      let same : Err TooLong ≡ answer = cc in subst (λ (r : Result Bool InputEnd). Says limit now rest r) same (says_long whole shown (beyond_by limit now.taken beyond))
  by_parts None false false answer shown whole beyond is = absurd (cc)

  pub says_standing : (answer : Result Bool InputEnd) → standing limit now ≡ Some answer → Says limit now rest answer
  says_standing answer is = by_parts (fault_at now.held) (is_whole now.held) (nat_lt limit now.taken) answer refl refl refl is

  pub says_failed : Open limit now → Says limit now rest (Err ReadFault)
  says_failed o =
      let h = nothing now.held o.nothing in
      let part = h.part in
      let clean = h.clean in
      record {
        answers = record {
          frame = (λ is. absurd (cc), λ w. absurd (cc));
          fault = λ f other. absurd (cc);
          bad = λ f is. absurd (cc);
          cut = λ n is. absurd (cc);
          done = λ is. absurd (cc);
        };
        too_long = (λ is. absurd (cc), λ t. absurd (omega (arith, t.1, o.within)));
      }

  pub says_done : Open limit now → IsAtEnd rest → now.held ≡ [] → Says limit now rest (Ok false)
  says_done o at_end empty =
      let h = nothing now.held o.nothing in
      let part = h.part in
      let clean = h.clean in
      record {
        answers = record {
          frame = (λ is. absurd (cc), λ w. absurd (cc));
          fault = λ f other. absurd (cc);
          bad = λ f is. absurd (cc);
          cut = λ n is. absurd (cc);
          done = λ is. (empty, at_end);
        };
        too_long = (λ is. absurd (cc), λ t. absurd (omega (arith, t.1, o.within)));
      }

  pub says_cut : Open limit now → IsAtEnd rest → (n : ℕ) → end_at now.held ≡ Err (CutFrame n) → Says limit now rest (Err (Frame (CutFrame n)))
  says_cut o at_end n ends =
      let h = nothing now.held o.nothing in
      let part = h.part in
      let clean = h.clean in
      record {
        answers = record {
          frame = (λ is. absurd (cc), λ w. absurd (cc));
          fault = λ f other. absurd (cc);
          bad = λ f is. let same : CutFrame n ≡ f = cc in ends ∙ ap (λ x. Err x) same;
          cut = λ m is. at_end;
          done = λ is. absurd (cc);
        };
        too_long = (λ is. absurd (cc), λ t. absurd (omega (arith, t.1, o.within)));
      }

-- no answer that needs no read says that a read failed
not_failed : (o : Option FrameFault) (w l : Bool) (answer : Result Bool InputEnd) → standing_by o w l ≡ Some answer → answer ≢ Err ReadFault
not_failed (Some e) w l answer is = λ failed. cc
not_failed None true l answer is = λ failed. cc
not_failed None false true answer is = λ failed. cc
not_failed None false false answer is = λ failed. cc

pub standing_reads : (limit : ℕ) (now : Intake) (answer : Result Bool InputEnd) → standing limit now ≡ Some answer → answer ≢ Err ReadFault
standing_reads limit now answer is = not_failed (fault_at now.held) (is_whole now.held) (nat_lt limit now.taken) answer is

-- what is held at the end of the input is nothing, or the begin of a frame
cut_of : (l : List ℕ) (P : Type 0) → (l ≡ [] → ended_by (fault_or_cut None l) ≡ Ok false → P) → ((n : ℕ) → fault_or_cut None l ≡ Err (CutFrame n) → ended_by (fault_or_cut None l) ≡ Err (Frame (CutFrame n)) → P) → P
cut_of [] P done cut = done refl refl
cut_of (b ∷ l) P done cut = cut (length (b ∷ l)) refl refl

pub says_ended : (limit : ℕ) (now : Intake) (rest : Option (List ℕ)) (answer : Result Bool InputEnd) → Open limit now → IsAtEnd rest → answer ≡ ended now.held
    → Says limit now rest answer × (answer ≢ Err ReadFault)
says_ended limit now rest answer o at_end is =
    let clean = (nothing now.held o.nothing).clean in
    let ends : end_at now.held ≡ fault_or_cut None now.held = ap (λ (f : Option FrameFault). fault_or_cut f now.held) clean in
    let told : answer ≡ ended_by (fault_or_cut None now.held) = is ∙ ap ended_by ends in
    let P : Result Bool InputEnd → Type 0 = λ r. Says limit now rest r × (r ≢ Err ReadFault) in
    cut_of now.held (P answer)
    (λ empty done. subst P (sym (told ∙ done)) (says_done limit now rest o at_end empty, λ failed. cc))
    (λ n cut ended_as. subst P (sym (told ∙ ended_as)) (says_cut limit now rest o at_end n (ends ∙ cut), λ failed. cc))
