use Rattle.std.proofs.Common.{◌≡◌, ◌++◌, List, ℕ, take, drop, ◌-◌, true, sym, ◌∙◌, ap, arith}
use Rattle.link_frames.specs.Splits.{is_whole}
use Rattle.framed_input.specs.FramesIn.{after_front}
use Rattle.framed_input.specs.Intake.{Intake, part}
use Rattle.framed_input.specs.Standing.{KeepsLimit}
use Rattle.framed_input.proofs.Fronts.{nothing}
use Rattle.framed_input.proofs.Settling.{settled_whole, settled_after, hands_on}
use Rattle.framed_input.proofs.reader.FrameReader.hand_out.Goals as goal

pub hand_out-requires : goal.hand_out-requires
hand_out-requires c = settled_whole _ _ _ _ c.self.invariant.3 ∙ ap (λ (r : Intake). is_whole r.held) c.self.view_is ∙ c.requires

-- nothing was taken beyond the limit where a whole frame is held
still : (held after : List ℕ) (taken : ℕ) → is_whole held ≡ true → KeepsLimit (record { held = held; taken = taken }) → KeepsLimit (record { held = after; taken = taken })
still held after taken whole k = record {
  most = k.most;
  none = λ beyond. let part = (nothing held (k.none beyond)).part in absurd (cc);
}

pub invariant_of-self : goal.invariant_of-self
invariant_of-self c =
    let buffer = c.self.inside.buffer.items in
    let h = hands_on c.hand_out.new.self c.between.result.now c.feed-fed.new.splitter buffer c.self.inside.start c.self.inside.end c.feed-fed.result.0 c.feed-fed.result.1
    c.hand_out.ensures
    (c.between.ensures ∙ ap (λ (l : List ℕ). take (c.self.inside.end - c.self.inside.start) (drop c.self.inside.start l)) c.deref.ensures.value)
    c.self.invariant.1
    (omega (arith, c.self.invariant.0, c.self.invariant.2, c.self.inside.buffer.ok))
    c.feed-fed.ensures in (
      c.self.invariant.0,
      h.within,
      c.self.invariant.2,
      h.settled,
      still (c.self.inside.splitter ++ part buffer c.self.inside.start c.self.inside.end) _ c.self.inside.taken (ap (λ (r : Intake). is_whole r.held) c.self.view_is ∙ c.requires) c.self.invariant.4,
    )

pub returns-clause-held : goal.returns-clause-held
returns-clause-held c =
    let buffer = c.self.inside.buffer.items in
    let h = hands_on c.hand_out.new.self c.between.result.now c.feed-fed.new.splitter buffer c.self.inside.start c.self.inside.end c.feed-fed.result.0 c.feed-fed.result.1
    c.hand_out.ensures
    (c.between.ensures ∙ ap (λ (l : List ℕ). take (c.self.inside.end - c.self.inside.start) (drop c.self.inside.start l)) c.deref.ensures.value)
    c.self.invariant.1
    (omega (arith, c.self.invariant.0, c.self.invariant.2, c.self.inside.buffer.ok))
    c.feed-fed.ensures in
    let whole : is_whole (c.self.inside.splitter ++ part buffer c.self.inside.start c.self.inside.end) ≡ true = ap (λ (r : Intake). is_whole r.held) c.self.view_is ∙ c.requires in
    h.all ∙ sym (settled_after _ _ _ _ c.self.invariant.3 whole) ∙ ap (λ (r : Intake). after_front r.held) c.self.view_is
