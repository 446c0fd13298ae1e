use Rattle.std.proofs.Common.{◌≡◌, ◌++◌, ◌∷◌, [], ℕ, List, length, ◌∙◌, ap, arith}
use Rattle.link_frames.specs.Frames.{content_of, frame_bytes}
use Rattle.store_forward.proofs.OneBuffer.{ends_pushed, frames_pushed}
use Rattle.store_forward.proofs.outbox.Outbox.push.Goals as goal

-- the ends with the new one
ended : (c : goal.In_ok-push) → c.push.new.self.items ≡ c.self.inside.ends.items ++ length c.encode_frame.new.out.items ∷ []
ended c =
    let size : c.len.result ≡ length c.encode_frame.new.out.items = omega (arith, c.len.ensures, c.encode_frame.new.out.ok) in
    c.in_ok-push.ensures.items
    ∙ ap (λ (l : List ℕ). l ++ c.len.result ∷ []) c.reserve.ensures.items
    ∙ ap (λ n. c.self.inside.ends.items ++ n ∷ []) size

pub invariant_of-self-2 : goal.invariant_of-self-2
invariant_of-self-2 c =
    ends_pushed c.self.inside.bytes.items c.self.inside.ends.items (frame_bytes (content_of c.args.frame.now)) c.encode_frame.new.out.items c.push.new.self.items
    c.in_ok-encode_frame.ensures.ok c.self.invariant (ended c)

pub returns-clause-ok : goal.returns-clause-ok
returns-clause-ok c =
    frames_pushed c.self.inside.bytes.items c.self.inside.ends.items (frame_bytes (content_of c.args.frame.now)) c.encode_frame.new.out.items c.push.new.self.items
    c.in_ok-encode_frame.ensures.ok c.self.invariant (ended c) c.args.self.now c.self.view_is
