use Rattle.std.proofs.Common.{◌≡◌, ◌≤◌, ◌+◌, ◌-◌, min, ◌++◌, true, false, List, ℕ, length, take, Option, None, is_some, arith, sym, ap, ◌∙◌, length-take}
use Rattle.std.specs.Int.{from_be_bytes, w32}
use Rattle.std.proofs.lemmas.List.{length-take-le, take-take}
use Rattle.link_frames.specs.Splits.{fault_at, size_at, length_at}
use Rattle.link_frames.specs.declared.fault.FrameFault.{FrameFault}
use Rattle.link_frames.proofs.Fronts.{sized, none_from}
use Rattle.link_frames.proofs.Filled.{early, filled}
use Rattle.link_frames.proofs.filling.fill.Goals as goal
use Rattle.link_frames.proofs.filling.fill.Goals.{then-headed-lt-HEAD-via-then-headed-lt-HEAD, then-headed-lt-HEAD-via-else-headed-lt-HEAD+then-is_some}

pub returns-then-headed-lt-HEAD : goal.returns-then-headed-lt-HEAD
returns-then-headed-lt-HEAD c =
    let long : length (take c.args.count c.args.room.now) ≡ c.args.count = length-take-le c.args.count c.args.room.now (omega (arith, c.requires.room, c.requires.count)) in
    early (take c.args.count c.args.room.now) c.args.piece.now c.args.count c.copy_up_to-taken.result long c.requires.count c.requires.held c.copy_up_to-taken.ensures.count
    (take (c.args.count + c.copy_up_to-taken.result) c.copy_up_to-taken.new.room) c.fault_at-fault.result
    c.copy_up_to-taken.ensures.held
    (c.fault_at-fault.ensures ∙ ap fault_at c.before-2.ensures)
    (λ none. elim c.then-headed-lt-HEAD.branch [
      | then-headed-lt-HEAD-via-then-headed-lt-HEAD w ↦ w.if-headed-lt-HEAD.true
      | then-headed-lt-HEAD-via-else-headed-lt-HEAD+then-is_some w ↦
          let h : false ≡ true = sym (ap (λ (o : Option FrameFault). is_some o) none) ∙ sym w.is_some.ensures ∙ w.if-is_some.true in absurd (cc)
    ])

-- the head shows no fault, and the number in it is the frame's length
module _ (old piece room : List ℕ) (headed n number : ℕ) (fault : Option FrameFault) (front : List ℕ) (there : front ≡ take headed room) (held : take headed room ≡ old ++ take n piece) (shown : fault ≡ fault_at front) (some : is_some fault ≡ false) (is : number ≡ length_at room) (enough : 13 ≤ headed) where
  clean : fault_at (old ++ take n piece) ≡ None
  clean = ap fault_at (sym held ∙ sym there) ∙ sym shown ∙ none_from fault some

  size : 4 + number ≡ size_at (old ++ take n piece)
  size =
      ap (λ k. 4 + k) is
      ∙ ap (λ (l : List ℕ). 4 + from_be_bytes w32 l) (sym (take-take 4 headed room (omega (arith, enough))))
      ∙ ap (λ (l : List ℕ). size_at l) held

  fits : headed ≤ length room → 4 + number ≤ 8205
  fits le = omega (arith, size, (sized (old ++ take n piece) (omega (arith, ap (λ (l : List ℕ). length l) held, length-take headed room, enough, le)) clean).1)

pub copy_up_to-more-requires-clause-limit : goal.copy_up_to-more-requires-clause-limit
copy_up_to-more-requires-clause-limit c =
    let few = fits (take c.args.count c.args.room.now) c.args.piece.now c.copy_up_to-taken.new.room (c.args.count + c.copy_up_to-taken.result) c.copy_up_to-taken.result c.length_at.result
    c.fault_at-fault.result c.before-2.result.now c.before-2.ensures c.copy_up_to-taken.ensures.held c.fault_at-fault.ensures (sym c.is_some.ensures ∙ c.if-is_some.false) c.length_at.ensures c.if-headed-lt-HEAD.false
    (omega (arith, c.requires.count, c.requires.room, c.copy_up_to-taken.auto.room, c.copy_up_to-taken.ensures.count)) in
    omega (arith, few, c.requires.room, c.copy_up_to-taken.auto.room)

pub returns : goal.returns
returns c =
    let long : length (take c.args.count c.args.room.now) ≡ c.args.count = length-take-le c.args.count c.args.room.now (omega (arith, c.requires.room, c.requires.count)) in
    let some = sym c.is_some.ensures ∙ c.if-is_some.false in
    filled (take c.args.count c.args.room.now) c.args.piece.now c.args.count c.copy_up_to-taken.result long c.requires.count c.requires.held c.copy_up_to-taken.ensures.count
    (take (c.args.count + c.copy_up_to-taken.result + c.copy_up_to-more.result) c.copy_up_to-more.new.room) c.copy_up_to-more.result (4 + c.length_at.result) c.if-headed-lt-HEAD.false
    (clean (take c.args.count c.args.room.now) c.args.piece.now c.copy_up_to-taken.new.room (c.args.count + c.copy_up_to-taken.result) c.copy_up_to-taken.result c.length_at.result
    c.fault_at-fault.result c.before-2.result.now c.before-2.ensures c.copy_up_to-taken.ensures.held c.fault_at-fault.ensures some c.length_at.ensures c.if-headed-lt-HEAD.false)
    (size (take c.args.count c.args.room.now) c.args.piece.now c.copy_up_to-taken.new.room (c.args.count + c.copy_up_to-taken.result) c.copy_up_to-taken.result c.length_at.result
    c.fault_at-fault.result c.before-2.result.now c.before-2.ensures c.copy_up_to-taken.ensures.held c.fault_at-fault.ensures some c.length_at.ensures c.if-headed-lt-HEAD.false)
    (c.copy_up_to-more.ensures.count ∙ ap (λ (l : List ℕ). min (4 + c.length_at.result - (c.args.count + c.copy_up_to-taken.result)) (length l)) c.after.ensures)
    (c.copy_up_to-more.ensures.held ∙ ap (λ (l : List ℕ). l ++ take c.copy_up_to-more.result c.after.result.now) c.copy_up_to-taken.ensures.held
    ∙ ap (λ (l : List ℕ). (take c.args.count c.args.room.now ++ take c.copy_up_to-taken.result c.args.piece.now) ++ take c.copy_up_to-more.result l) c.after.ensures)
