use Rattle.std.proofs.Common.{◌≡◌, ◌≤◌, ◌+◌, ◌-◌, max, min, ◌++◌, List, ℕ, length, take, sym, ◌∙◌, ap, subst, arith}
use Rattle.std.specs.Vec.{with_items}
use Rattle.std.specs.Io.KnownBytes.{Consumes}
use Rattle.std.proofs.lemmas.List.{with_items_is}
use Rattle.framed_input.specs.Intake.{Intake, part}
use Rattle.framed_input.specs.Standing.{standing}
use Rattle.framed_input.specs.Taking.{TakesPiece}
use Rattle.framed_input.proofs.Settling.{scribbled}
use Rattle.framed_input.proofs.PieceTaken.{empty, unread, added, keeps, takes}
use Rattle.framed_input.proofs.reader.FrameReader.take_piece.Goals as goal

pub invariant_of-self : goal.invariant_of-self
invariant_of-self g c =
    let r = c.self.inside in
    let none = ap (λ (i : Intake). standing c.args.limit i) c.self.view_is ∙ c.requires.nothing in
    let items = (with_items r.buffer c.read_front.new.buffer).items in
    let nought = scribbled r.buffer.items items r.start r.end
    (empty r.splitter (part r.buffer.items r.start r.end) r.fed r.taken c.args.limit r.fault c.self.invariant.3 c.self.invariant.4 none)
    c.self.invariant.1 (omega (arith, c.self.invariant.0, c.self.invariant.2, r.buffer.ok)) in
    let h = unread r.splitter (part r.buffer.items r.start r.end) r.fed r.taken c.args.limit r.fault c.self.invariant.3 c.self.invariant.4 none (part items r.start r.end) nought in
    (c.self.invariant.0, c.self.invariant.1, c.self.invariant.2, h.0, h.1)

pub returns-in-Err-clause-failed : goal.returns-in-Err-clause-failed
returns-in-Err-clause-failed g c =
    let r = c.self.inside in
    let none = ap (λ (i : Intake). standing c.args.limit i) c.self.view_is ∙ c.requires.nothing in
    let items = (with_items r.buffer c.read_front.new.buffer).items in
    let nought = scribbled r.buffer.items items r.start r.end
    (empty r.splitter (part r.buffer.items r.start r.end) r.fed r.taken c.args.limit r.fault c.self.invariant.3 c.self.invariant.4 none)
    c.self.invariant.1 (omega (arith, c.self.invariant.0, c.self.invariant.2, r.buffer.ok)) in
    let h = unread r.splitter (part r.buffer.items r.start r.end) r.fed r.taken c.args.limit r.fault c.self.invariant.3 c.self.invariant.4 none (part items r.start r.end) nought in
    (h.2 ∙ c.self.view_is, c.in-Err.ensures.bytes)

pub invariant_of-self-in-Ok : goal.invariant_of-self-in-Ok
invariant_of-self-in-Ok g c =
    let r = c.self.inside in
    let none = ap (λ (i : Intake). standing c.args.limit i) c.self.view_is ∙ c.requires.nothing in
    let items = (with_items r.buffer c.read_front.new.buffer).items in
    let same : items ≡ c.read_front.new.buffer = with_items_is r.buffer c.read_front.new.buffer (omega (arith, c.read_front.auto.buffer, c.deref_mut.ensures.len)) in
    let long : length items ≡ 4096 = ap (λ (l : List ℕ). length l) same ∙ omega (arith, c.read_front.auto.buffer, c.deref_mut.ensures.len, c.self.invariant.0) in
    let is : c.before-in-Ok.result.now ≡ take c.min-kept.result items = c.before-in-Ok.ensures ∙ ap (take c.min-kept.result) c.deref.ensures.value in
    let room : c.in-Ok.count ≤ max 1 (min (c.args.limit - r.taken) 4096) = omega (arith, c.room_for.ensures, c.in-Ok.ensures.few) in
    let a = added r.splitter (part r.buffer.items r.start r.end) r.fed r.taken c.args.limit r.fault c.self.invariant.3 c.self.invariant.4 none
    c.before-in-Ok.result.now c.feed-fed.new.splitter items c.in-Ok.count c.min-kept.result c.feed-fed.result.0 c.feed-fed.result.1 is c.min-kept.ensures room long c.feed-fed.ensures in
    let k = keeps r.splitter (part r.buffer.items r.start r.end) r.fed r.taken c.args.limit r.fault c.self.invariant.3 c.self.invariant.4 none
    c.before-in-Ok.result.now c.feed-fed.new.splitter items c.in-Ok.count c.min-kept.result c.feed-fed.result.0 c.feed-fed.result.1 is c.min-kept.ensures room long c.feed-fed.ensures c.requires.limit in
    (c.self.invariant.0, a.within, omega (arith, c.min-kept.ensures, c.room_for.ensures, c.in-Ok.ensures.few), a.settled, k)

pub returns-in-Ok-clause-piece : goal.returns-in-Ok-clause-piece
returns-in-Ok-clause-piece g c =
    let r = c.self.inside in
    let none = ap (λ (i : Intake). standing c.args.limit i) c.self.view_is ∙ c.requires.nothing in
    let items = (with_items r.buffer c.read_front.new.buffer).items in
    let same : items ≡ c.read_front.new.buffer = with_items_is r.buffer c.read_front.new.buffer (omega (arith, c.read_front.auto.buffer, c.deref_mut.ensures.len)) in
    let long : length items ≡ 4096 = ap (λ (l : List ℕ). length l) same ∙ omega (arith, c.read_front.auto.buffer, c.deref_mut.ensures.len, c.self.invariant.0) in
    let is : c.before-in-Ok.result.now ≡ take c.min-kept.result items = c.before-in-Ok.ensures ∙ ap (take c.min-kept.result) c.deref.ensures.value in
    let room : c.in-Ok.count ≤ max 1 (min (c.args.limit - r.taken) 4096) = omega (arith, c.room_for.ensures, c.in-Ok.ensures.few) in
    let left = g.I.Source.left c.args.input.now in
    let rest = g.I.Source.left c.read_front.new.input in
    let t = takes r.splitter (part r.buffer.items r.start r.end) r.fed r.taken c.args.limit r.fault c.self.invariant.3 c.self.invariant.4 none
    c.before-in-Ok.result.now c.feed-fed.new.splitter items c.in-Ok.count c.min-kept.result c.feed-fed.result.0 c.feed-fed.result.1 is c.min-kept.ensures room long c.feed-fed.ensures
    left rest (subst (λ (l : List ℕ). Consumes left rest (take c.in-Ok.count l)) (sym same) c.in-Ok.ensures.bytes.0) in
    let P : Intake → Type 0 = λ i. TakesPiece c.args.limit c.in-Ok.count left rest i (record { held = c.feed-fed.new.splitter ++ part items c.feed-fed.result.0 c.min-kept.result; taken = r.taken + c.in-Ok.count }) in
    subst P c.self.view_is t
