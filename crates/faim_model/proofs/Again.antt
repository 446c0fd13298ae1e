-- What becomes of a text with an identifier that was posted.
use Rattle.std.proofs.Common.{◌≡◌, refl, sym, ◌∙◌, ap, ℕ, Bool, true, List, Option, Some, None, if◌then◌else◌, not}
use Rattle.std.specs.List.{Contains}
use Rattle.std.specs.Option.{option_map_or}
use Rattle.std.specs.Str.{bytes_eq}
use Rattle.faim_base.specs.declared.judgement.Head.{Head}
use Rattle.faim_base.specs.declared.judgement.Reject.{Reject}
use Rattle.faim_base.specs.declared.judgement.Verdict.{Verdict}
use Rattle.faim_base.specs.Refusals.{x201}
use Rattle.host_ledger.specs.declared.config.Config.{Config}
use Rattle.host_ledger.specs.declared.entries.Entry.{Entry}
use Rattle.host_ledger.specs.declared.entries.Entry.TheVariants.{Posted}
use Rattle.faim_model.specs.declared.decisions.Decision.{Decision}
use Rattle.faim_model.specs.declared.decisions.Decision.TheVariants.{Known as KnownAt, Differs, WrongSource}
use Rattle.faim_model.specs.declared.decisions.HostOutcome.TheVariants.{Known, TurnedAway}
use Rattle.faim_model.specs.Submissions.{Numbered, submission}
use Rattle.faim_model.specs.Verdicts.{answer_of, has_body, has_imad, judged, judged_new, place_of}
use Rattle.faim_model.specs.Lawful.{Lawful}
use Rattle.faim_model.specs.Turns.{answered, effective, stays, submitted, told_again, turn_at}
use Rattle.faim_model.proofs.Imads.{bytes_pass}
use Rattle.faim_model.proofs.Places.{imad_found, no_other_body, post_found}

-- the decision where the identifier is known with this body, and with another one
known_case : (own : Bool) (known differs : Option ℕ) (rest : Decision) (place : ℕ) → own ≡ true → known ≡ Some place
    → (if not own then WrongSource else option_map_or KnownAt known (option_map_or Differs differs rest)) ≡ KnownAt place
known_case own known differs rest place is_own is_known = rw (is_own, is_known) refl

pub differs_case : (own : Bool) (known differs : Option ℕ) (rest : Decision) (place : ℕ) → own ≡ true → known ≡ None → differs ≡ Some place
    → (if not own then WrongSource else option_map_or KnownAt known (option_map_or Differs differs rest)) ≡ Differs place
differs_case own known differs rest place is_own unknown is_there = rw (is_own, unknown, is_there) refl

-- a turn by what its text is and the decision on it
pub turn_by : (c : Config) (es : List Entry) (line : List ℕ) (reading : ℕ) (text : List ℕ) (h : Head) (body : List ℕ) (mark : ℕ) (failed : Option Reject) (d : Decision)
    → submission c.env text ≡ Numbered h body mark failed → judged c es line (effective es reading) h body failed ≡ d
    → submitted c es line reading text ≡ answered es (effective es reading) h body mark (answer_of d)
turn_by c es line reading text h body mark failed d is decided =
    ap (turn_at c es line (effective es reading)) is ∙ ap (λ (x : Decision). answered es (effective es reading) h body mark (answer_of x)) decided

-- a text with the identifier of a posted entry
module _ (c : Config) (es : List Entry) (h : Head) (body : List ℕ) (resent : Bool) (moment : ℕ) (v : Verdict)
    (reading : ℕ) (text : List ℕ) (h' : Head) (body' : List ℕ) (mark : ℕ) (failed : Option Reject) where
  -- with the same body, whatever its mark: its verdict stands
  pub told_as_before : Lawful c es → Contains es (Posted h body resent moment v) → submission c.env text ≡ Numbered h' body' mark failed
      → h'.imad ≡ h.imad → body' ≡ body → submitted c es h.imad.source reading text ≡ stays (Known h.imad v)
  told_as_before lawful there is imad same =
      let line : List ℕ = h.imad.source in
      let post = post_found c h body resent moment v es lawful there in
      let own : bytes_eq h'.imad.source line ≡ true = bytes_pass h'.imad.source line (λ k. (imad k).source) in
      let known : place_of (has_body h'.imad body') es ≡ Some post.place =
      (λ k. place_of (has_body (imad k) (same k)) es) ∙ post.found in
      let decided : judged c es line (effective es reading) h' body' failed ≡ KnownAt post.place =
      known_case (bytes_eq h'.imad.source line) (place_of (has_body h'.imad body') es) (place_of (has_imad h'.imad) es)
      (judged_new c es line (effective es reading) h' failed) post.place own known in
      turn_by c es line reading text h' body' mark failed (KnownAt post.place) is decided ∙ ap (λ (x : Option Entry). stays (told_again x)) post.stands

  -- with another body it is turned away
  pub other_turned_away : Lawful c es → Contains es (Posted h body resent moment v) → submission c.env text ≡ Numbered h' body' mark failed
      → h'.imad ≡ h.imad → (body' ≡ body → ⊥) → submitted c es h.imad.source reading text ≡ stays (TurnedAway x201)
  other_turned_away lawful there is imad apart =
      let line : List ℕ = h.imad.source in
      let post = imad_found c h body resent moment v h'.imad es there (sym imad) in
      let own : bytes_eq h'.imad.source line ≡ true = bytes_pass h'.imad.source line (λ k. (imad k).source) in
      let unknown : place_of (has_body h'.imad body') es ≡ None =
      (λ k. place_of (has_body (imad k) body') es) ∙ no_other_body c h body resent moment v body' es lawful there apart in
      let decided : judged c es line (effective es reading) h' body' failed ≡ Differs post.0 =
      differs_case (bytes_eq h'.imad.source line) (place_of (has_body h'.imad body') es) (place_of (has_imad h'.imad) es)
      (judged_new c es line (effective es reading) h' failed) post.0 own unknown post.1 in
      turn_by c es line reading text h' body' mark failed (Differs post.0) is decided
