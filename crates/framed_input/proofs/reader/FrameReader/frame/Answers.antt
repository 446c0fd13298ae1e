use Rattle.std.proofs.Common.{◌≡◌, ◌++◌, List, ℕ, Option, Some, None, true, refl, sym, ◌∙◌, ap, subst}
use Rattle.std.specs.Prelude.{IsSome, IfSome}
use Rattle.link_frames.specs.declared.frame.Frame.{Frame}
use Rattle.link_frames.specs.declared.fault.FrameFault.{FrameFault}
use Rattle.link_frames.specs.Frames.{IsFrame, content_of, frame_bytes}
use Rattle.link_frames.specs.Splits.{is_whole}
use Rattle.framed_input.specs.Feeding.{Settled}
use Rattle.framed_input.specs.FramesIn.{after_front}
use Rattle.framed_input.specs.Intake.{Intake}
use Rattle.framed_input.proofs.Settling.{settled_whole, settled_after}
use Rattle.framed_input.proofs.reader.FrameReader.frame.Goals as goal

pub returns-clause-there : goal.returns-clause-there
returns-clause-there c =
    let same = settled_whole _ _ _ _ c.self.invariant.3 ∙ ap (λ (r : Intake). is_whole r.held) c.self.view_is in
    (λ some. sym same ∙ c.frame.ensures.there.0 some, λ whole. c.frame.ensures.there.1 (same ∙ whole))

lent : (o : Option Frame) (fed unfed : List ℕ) (count : ℕ) (fault : Option FrameFault) → Settled fed unfed count fault → (IsSome o → is_whole fed ≡ true)
    → IfSome o (λ f. (frame_bytes (content_of f) ≡ fed) × IsFrame (content_of f))
    → IfSome o (λ f. IsFrame (content_of f) × (fed ++ unfed ≡ frame_bytes (content_of f) ++ after_front (fed ++ unfed)))
lent None fed unfed count fault s whole h = tt
lent (Some f) fed unfed count fault s whole h =
    let all : is_whole (fed ++ unfed) ≡ true = sym (settled_whole fed unfed count fault s) ∙ whole refl in (
      h.1,
      ap (λ (l : List ℕ). l ++ unfed) (sym h.0) ∙ ap (λ (l : List ℕ). frame_bytes (content_of f) ++ l) (sym (settled_after fed unfed count fault s all)),
    )

pub returns-clause-frame : goal.returns-clause-frame
returns-clause-frame c =
    let P : Intake → Type 0 = λ r. IfSome c.frame.result (λ f. IsFrame (content_of f) × (r.held ≡ frame_bytes (content_of f) ++ after_front r.held)) in
    subst P c.self.view_is (lent c.frame.result _ _ _ _ c.self.invariant.3 c.frame.ensures.there.0 c.frame.ensures.frame)
