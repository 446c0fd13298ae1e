use Rattle.std.proofs.Common.{sym, ◌∙◌, subst, arith}
use Rattle.framed_input.specs.Intake.{Intake}
use Rattle.framed_input.proofs.TakingOn.{Open, open_from, stood, takes_on}
use Rattle.framed_input.proofs.Told.{says_standing, says_failed, says_ended, standing_reads}
use Rattle.framed_input.proofs.PieceTaken.{none_came}
use Rattle.framed_input.proofs.reader.FrameReader.advance_within.Goals as goal

pub returns-in-Some-clause-answer : goal.returns-in-Some-clause-answer
returns-in-Some-clause-answer g c =
    (says_standing c.args.limit c.loop-answer.self (g.I.Source.left c.loop-answer.input) c.in-Some.answer (sym c.in-Some.ensures.answer)).answers

pub returns-in-Some-clause-too_long : goal.returns-in-Some-clause-too_long
returns-in-Some-clause-too_long g c =
    (says_standing c.args.limit c.loop-answer.self (g.I.Source.left c.loop-answer.input) c.in-Some.answer (sym c.in-Some.ensures.answer)).too_long

pub returns-in-Some-clause-read_fault : goal.returns-in-Some-clause-read_fault
returns-in-Some-clause-read_fault g c = record {
  later = omega (arith, c.loop-answer.invariant.kept);
  failed = λ failed. absurd (standing_reads c.args.limit c.loop-answer.self c.in-Some.answer (sym c.in-Some.ensures.answer) failed);
  kept = λ other. c.loop-answer.invariant.kept;
}

pub returns-in-Err-clause-stays : goal.returns-in-Err-clause-stays
returns-in-Err-clause-stays g c = λ either.
    stood c.args.limit c.args.self.now c.loop-answer.self _ (sym c.in-None.ensures.answer) either (c.loop-answer.invariant.stays either).0

pub returns-in-Err-clause-answer : goal.returns-in-Err-clause-answer
returns-in-Err-clause-answer g c =
    let here : Open c.args.limit c.take_piece.new.self =
    subst (λ (i : Intake). Open c.args.limit i) (sym c.in-Err.ensures.failed.0) (open_from c.args.limit c.loop-answer.self (sym c.in-None.ensures.answer)) in
    (says_failed c.args.limit c.take_piece.new.self (g.I.Source.left c.take_piece.new.input) here).answers

pub returns-in-Err-clause-too_long : goal.returns-in-Err-clause-too_long
returns-in-Err-clause-too_long g c =
    let here : Open c.args.limit c.take_piece.new.self =
    subst (λ (i : Intake). Open c.args.limit i) (sym c.in-Err.ensures.failed.0) (open_from c.args.limit c.loop-answer.self (sym c.in-None.ensures.answer)) in
    (says_failed c.args.limit c.take_piece.new.self (g.I.Source.left c.take_piece.new.input) here).too_long

pub ended-requires : goal.ended-requires
ended-requires g c =
    (none_came c.args.limit c.in-Ok-eq0.field-0 _ _ c.loop-answer.self c.take_piece.new.self c.in-Ok-eq0.field-0-test c.in-Ok-eq0.ensures.piece (open_from c.args.limit c.loop-answer.self (sym c.in-None.ensures.answer))).nothing

pub returns-in-Ok-eq0-clause-takes : goal.returns-in-Ok-eq0-clause-takes
returns-in-Ok-eq0-clause-takes g c =
    takes_on c.args.limit c.in-Ok-eq0.field-0 _ _ _ c.args.self.now c.loop-answer.self c.take_piece.new.self c.loop-answer.invariant.takes c.in-Ok-eq0.ensures.piece (sym c.in-None.ensures.answer)

pub returns-in-Ok-eq0-clause-stays : goal.returns-in-Ok-eq0-clause-stays
returns-in-Ok-eq0-clause-stays g c = λ either.
    stood c.args.limit c.args.self.now c.loop-answer.self _ (sym c.in-None.ensures.answer) either (c.loop-answer.invariant.stays either).0

pub returns-in-Ok-eq0-clause-answer : goal.returns-in-Ok-eq0-clause-answer
returns-in-Ok-eq0-clause-answer g c =
    let here = none_came c.args.limit c.in-Ok-eq0.field-0 _ _ c.loop-answer.self c.take_piece.new.self c.in-Ok-eq0.field-0-test c.in-Ok-eq0.ensures.piece (open_from c.args.limit c.loop-answer.self (sym c.in-None.ensures.answer)) in
    (says_ended c.args.limit c.take_piece.new.self (g.I.Source.left c.take_piece.new.input) c.ended.result here (c.in-Ok-eq0.ensures.end (cc)) c.ended.ensures).0.answers

pub returns-in-Ok-eq0-clause-too_long : goal.returns-in-Ok-eq0-clause-too_long
returns-in-Ok-eq0-clause-too_long g c =
    let here = none_came c.args.limit c.in-Ok-eq0.field-0 _ _ c.loop-answer.self c.take_piece.new.self c.in-Ok-eq0.field-0-test c.in-Ok-eq0.ensures.piece (open_from c.args.limit c.loop-answer.self (sym c.in-None.ensures.answer)) in
    (says_ended c.args.limit c.take_piece.new.self (g.I.Source.left c.take_piece.new.input) c.ended.result here (c.in-Ok-eq0.ensures.end (cc)) c.ended.ensures).0.too_long

pub returns-in-Ok-eq0-clause-read_fault : goal.returns-in-Ok-eq0-clause-read_fault
returns-in-Ok-eq0-clause-read_fault g c =
    let here = none_came c.args.limit c.in-Ok-eq0.field-0 _ _ c.loop-answer.self c.take_piece.new.self c.in-Ok-eq0.field-0-test c.in-Ok-eq0.ensures.piece (open_from c.args.limit c.loop-answer.self (sym c.in-None.ensures.answer)) in
    let told = says_ended c.args.limit c.take_piece.new.self (g.I.Source.left c.take_piece.new.input) c.ended.result here (c.in-Ok-eq0.ensures.end (cc)) c.ended.ensures in
    let same = c.in-Ok-eq0.ensures.cause.kept ∙ c.loop-answer.invariant.kept in
    record {
      later = omega (arith, same);
      failed = λ failed. absurd (told.1 failed);
      kept = λ other. same;
    }

pub loop-answer-preserved : goal.loop-answer-preserved
loop-answer-preserved g c = record {
  takes = takes_on c.args.limit c.in-Ok.field-0 _ _ _ c.args.self.now c.loop-answer.self c.take_piece.new.self c.loop-answer.invariant.takes c.in-Ok.ensures.piece (sym c.in-None.ensures.answer);
  kept = c.in-Ok.ensures.cause.kept ∙ c.loop-answer.invariant.kept;
  stays = λ either. stood c.args.limit c.args.self.now c.loop-answer.self _ (sym c.in-None.ensures.answer) either (c.loop-answer.invariant.stays either).0;
}
