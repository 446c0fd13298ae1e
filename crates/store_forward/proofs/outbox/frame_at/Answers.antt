use Rattle.std.proofs.Common.{◌-◌, ℕ, List, length, take, drop, get_or, sym, ◌∙◌, ap, arith, length-drop}
use Rattle.std.specs.Prelude.{Some}
use Rattle.store_forward.proofs.OneBuffer.{end_within, start_before, frame_is}
use Rattle.store_forward.proofs.outbox.frame_at.Goals as goal

pub after-requires : goal.after-requires
after-requires c =
    let size = length c.args.bytes.now in
    omega (arith, c.start_of-start.ensures, start_before 0 size c.args.ends.now c.args.place c.requires.ends c.requires.place, end_within 0 size c.args.ends.now c.args.place c.requires.ends c.requires.place)

pub overflow_sub-ends : goal.overflow_sub-ends
overflow_sub-ends c = omega (arith, c.start_of-start.ensures, start_before 0 (length c.args.bytes.now) c.args.ends.now c.args.place c.requires.ends c.requires.place)

pub before-requires : goal.before-requires
before-requires c =
    omega (arith, ap length c.after.ensures, length-drop c.start_of-start.result c.args.bytes.now, end_within 0 (length c.args.bytes.now) c.args.ends.now c.args.place c.requires.ends c.requires.place)

pub returns : goal.returns
returns c =
    let e = get_or c.args.ends.now c.args.place 0 in
    frame_is 0 c.args.bytes.now c.args.ends.now c.args.place c.requires.place
    ∙ ap Some (sym (
    c.before-2.ensures
    ∙ ap (λ (l : List ℕ). take (e - c.start_of-start.result) l) c.after.ensures
    ∙ ap (λ n. take (e - n) (drop n c.args.bytes.now)) c.start_of-start.ensures
    ))
