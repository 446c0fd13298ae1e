use Rattle.std.proofs.Common.{inl, inr, List, ℕ, subst}
use Rattle.std.specs.Io.KnownBytes.{Appends}
use Rattle.faim_top.specs.Seen.{seen}
use Rattle.faim_top.specs.Ends.{AppendsPart, Streams}
use Rattle.faim_top.proofs.Counted.{same_faults, ok_no_err}
use Rattle.faim_top.proofs.Endings.{written, written_part, answered, no_fault}
use Rattle.faim_top.proofs.top.carry_out.Goals as goal

pub returns-in-Ok-write_all-clause-ended : goal.returns-in-Ok-write_all-clause-ended
returns-in-Ok-write_all-clause-ended g c =
    let old = g.O.Sink.written c.args.out.now in
    let new = g.O.Sink.written c.write_all.new.out in
    let s : Streams = record { left = seen g.I.Source.left c.args.input.now c.answer_to.new.input; written = seen g.O.Sink.written c.args.out.now c.write_all.new.out } in
    let Q : List ℕ → Type 0 = λ t. Appends old new t in
    written c.args.query s c.in-Ok.answer.1 c.in-Ok.answer.0.items c.in-Ok.ensures.answer (subst Q c.as_slice.ensures.value c.in-Ok-write_all.ensures.all)

pub returns-in-Ok-write_all-clause-input_faults : goal.returns-in-Ok-write_all-clause-input_faults
returns-in-Ok-write_all-clause-input_faults g c =
    same_faults (λ failed. absurd (cc (failed, c.in-Ok.is)))
    (λ fault. absurd (no_fault c.args.query _ c.in-Ok.answer.1 c.in-Ok.answer.0.items c.in-Ok.ensures.answer (inl fault)))
    c.answer_to.ensures.faults

pub returns-in-Ok-write_all-clause-output_faults : goal.returns-in-Ok-write_all-clause-output_faults
returns-in-Ok-write_all-clause-output_faults g c =
    same_faults (λ failed. absurd (ok_no_err _ _ c.in-Ok-write_all.is failed))
    (λ fault. absurd (no_fault c.args.query _ c.in-Ok.answer.1 c.in-Ok.answer.0.items c.in-Ok.ensures.answer (inr fault)))
    c.write_all.ensures.faults

pub returns-in-Ok-write_all-clause-complete : goal.returns-in-Ok-write_all-clause-complete
returns-in-Ok-write_all-clause-complete g c = λ reads writes memory.
    answered c.args.query (seen g.I.Source.left c.args.input.now c.answer_to.new.input) c.in-Ok.answer.1 c.in-Ok.answer.0.items c.in-Ok.ensures.answer

pub returns-clause-ended : goal.returns-clause-ended
returns-clause-ended g c =
    let s : Streams = record { left = seen g.I.Source.left c.args.input.now c.answer_to.new.input; written = seen g.O.Sink.written c.args.out.now c.write_all.new.out } in
    let Q : List ℕ → Type 0 = λ t. AppendsPart (seen g.O.Sink.written c.args.out.now c.write_all.new.out) t in
    written_part c.args.query s c.in-Ok.answer.1 c.in-Ok.answer.0.items c.in-Ok.ensures.answer (subst Q c.as_slice.ensures.value c.in-Err.ensures.part)
