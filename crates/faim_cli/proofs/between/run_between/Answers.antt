use Rattle.std.proofs.Common.{◌≡◌, IfSome, Option, List, ℕ, sym, subst}
use Rattle.faim_top.specs.Commands.{Carried, most_taken}
use Rattle.faim_top.specs.Seen.{LosesAtMost, Seen, seen}
use Rattle.faim_top.specs.Sources.{TakesLittleBeyond}
use Rattle.faim_top.specs.Words.{command_of, texts}
use Rattle.faim_cli.proofs.between.run_between.Goals as goal

-- what an adapter tells at its ends is what its object tells
same_seen : {Object : Type 0} (tells : Object → Option (List ℕ)) (P : Seen (Option (List ℕ)) → Type 0) (old first new last : Object)
    → first ≡ old → new ≡ last → P (seen tells first last) → P (seen tells old new)
same_seen tells P old first new last begun ended h =
    subst (λ x. P (seen tells x new)) begun (subst (λ x. P (seen tells first x)) (sym ended) h)

pub returns-clause-ended : goal.returns-clause-ended
returns-clause-ended g c =
    let command = command_of (texts c.args.words.now) in
    let site = seen g.S.Site.told c.args.site.now c.run-status.new.site in
    let given = seen g.C.Clock.given c.args.clock.now c.run-status.new.clock in
    let left = seen g.R.Read.remaining c.args.reader c.into_reader.result in
    same_seen g.W.Write.contents (λ written. IfSome command (λ k. Carried k c.run-status.result (record { left = left; written = written; site = site; given = given })))
    c.args.writer c.new-out.result.writer c.into_writer.result c.run-status.new.out.writer c.new-out.ensures.writer c.into_writer.ensures
    (same_seen g.R.Read.remaining (λ reads. IfSome command (λ k. Carried k c.run-status.result (record { left = reads; written = seen g.W.Write.contents c.new-out.result.writer c.run-status.new.out.writer; site = site; given = given })))
    c.args.reader c.new-input.result.reader c.into_reader.result c.run-status.new.input.reader c.new-input.ensures.reader c.into_reader.ensures
    c.run-status.ensures.ended)

pub returns-clause-few : goal.returns-clause-few
returns-clause-few g c =
    same_seen g.R.Read.remaining (λ reads. IfSome (command_of (texts c.args.words.now)) (λ k. LosesAtMost (most_taken k) reads))
    c.args.reader c.new-input.result.reader c.into_reader.result c.run-status.new.input.reader c.new-input.ensures.reader c.into_reader.ensures
    c.run-status.ensures.few

pub returns-clause-stops : goal.returns-clause-stops
returns-clause-stops g c = λ check.
    same_seen g.R.Read.remaining TakesLittleBeyond
    c.args.reader c.new-input.result.reader c.into_reader.result c.run-status.new.input.reader c.new-input.ensures.reader c.into_reader.ensures
    (c.run-status.ensures.stops check)
