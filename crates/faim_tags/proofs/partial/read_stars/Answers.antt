use Rattle.std.proofs.Common.{◌≡◌, ℕ, ◌+◌, ◌-◌, get_or, drop, sym, ap, ◌∙◌, arith, length}
use Rattle.std.proofs.lemmas.List.{length-drop}
use Rattle.faim_tags.specs.Parts.{text_length}
use Rattle.faim_tags.proofs.Greedy.{star_inside, text_length-short}
use Rattle.faim_tags.proofs.RunLemmas.{reads_none, reads_closed, reaches_open, reaches_end}
use Rattle.faim_tags.specs.declared.partial.TagPart.TheVariants.{Elements}
use Rattle.faim_tags.proofs.partial.read_stars.Goals as goal

pub loop-stars-init : goal.loop-stars-init
loop-stars-init c = record {
  within = omega arith;
  read = λ ns p h. reads_none ns p c.args.bytes.now (Elements c.args.no c.args.fixed c.args.stars c.args.part) h;
}

pub overflow_add-part : goal.overflow_add-part
overflow_add-part c =
    let short = text_length-short c.saturating_sub-room.result c.after.result.now in
    let byte : c.from.result ≡ get_or c.args.most.now c.loop-stars.stars 0 = c.from.ensures in
    omega (arith, short.0, c.run_of_text-run.ensures, c.saturating_sub-room.ensures, c.from.type_inv, c.loop-stars.auto.part-fits)

pub overflow_add-place : goal.overflow_add-place
overflow_add-place c =
    omega (arith, (text_length-short c.saturating_sub-room.result c.after.result.now).1, c.run_of_text-run.ensures, ap length c.after.ensures, length-drop c.loop-stars.place c.args.bytes.now)

pub returns-then-not-is_star-clause-within : goal.returns-then-not-is_star-clause-within
returns-then-not-is_star-clause-within c =
    omega (arith, (text_length-short c.saturating_sub-room.result c.after.result.now).1, c.run_of_text-run.ensures, ap length c.after.ensures, length-drop c.loop-stars.place c.args.bytes.now)

pub returns-then-not-is_star-clause-read : goal.returns-then-not-is_star-clause-read
returns-then-not-is_star-clause-read c ns p h =
    let most = c.args.most.now in
    let bytes = c.args.bytes.now in
    let stars = c.loop-stars.stars in
    let part = c.loop-stars.part in
    let place = c.loop-stars.place in
    let room : c.saturating_sub-room.result ≡ get_or most stars 0 - part = c.saturating_sub-room.ensures ∙ ap (λ (j : ℕ). j - part) c.from.ensures in
    let counted : c.run_of_text-run.result ≡ text_length (get_or most stars 0 - part) (drop place bytes) =
    c.run_of_text-run.ensures ∙ ap (λ (j : ℕ). text_length j c.after.result.now) room ∙ ap (text_length (get_or most stars 0 - part)) c.after.ensures in
    reaches_open ns c.args.no c.args.fixed stars part most bytes place c.run_of_text-run.result p c.requires.whole c.requires.most c.loop-stars.invariant.within counted (sym c.is_star.ensures ∙ c.if-not-is_star.true) (c.loop-stars.invariant.read ns p h)

pub loop-stars-preserved : goal.loop-stars-preserved
loop-stars-preserved c =
    let most = c.args.most.now in
    let bytes = c.args.bytes.now in
    let stars = c.loop-stars.stars in
    let part = c.loop-stars.part in
    let place = c.loop-stars.place in
    let room : c.saturating_sub-room.result ≡ get_or most stars 0 - part = c.saturating_sub-room.ensures ∙ ap (λ (j : ℕ). j - part) c.from.ensures in
    let counted : c.run_of_text-run.result ≡ text_length (get_or most stars 0 - part) (drop place bytes) =
    c.run_of_text-run.ensures ∙ ap (λ (j : ℕ). text_length j c.after.result.now) room ∙ ap (text_length (get_or most stars 0 - part)) c.after.ensures in
    let star = sym c.is_star.ensures ∙ c.if-not-is_star.false in
    record {
      within = omega (arith, star_inside bytes (place + c.run_of_text-run.result) star);
      read = λ ns p h. reads_closed ns c.args.no c.args.fixed stars part most bytes place c.run_of_text-run.result p c.requires.whole c.requires.most c.loop-stars-test.true counted star (c.loop-stars.invariant.read ns p h);
    }

pub returns-clause-within : goal.returns-clause-within
returns-clause-within c = c.loop-stars.invariant.within

pub returns-clause-read : goal.returns-clause-read
returns-clause-read c ns p h =
    reaches_end ns c.args.no c.args.fixed c.loop-stars.stars c.loop-stars.part c.args.most.now c.args.bytes.now c.loop-stars.place p c.requires.whole c.requires.most c.loop-stars.invariant.within (omega arith) (c.loop-stars.invariant.read ns p h)
