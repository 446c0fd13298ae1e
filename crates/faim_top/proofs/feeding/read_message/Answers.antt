use Rattle.std.proofs.Common.{◌≡◌, ℕ, ap, subst}
use Rattle.std.specs.Prelude.{Result, Err}
use Rattle.faim_base.specs.declared.judgement.Refused.{Refused}
use Rattle.faim_message.specs.Spelling.{Spells}
use Rattle.faim_top.specs.declared.feeding.Unread.{Unread}
use Rattle.faim_top.specs.declared.feeding.Unread.TheVariants as unread
use Rattle.faim_top.specs.Seen.{seen}
use Rattle.faim_top.specs.Sources.{RefusesSource}
use Rattle.faim_top.proofs.FedLemmas.{fed_whole, refused_whole, takes_nothing}
use Rattle.faim_top.proofs.feeding.read_message.Goals as goal

pub returns-in-Err-clause-beyond : goal.returns-in-Err-clause-beyond
returns-in-Err-clause-beyond g c = takes_nothing (g.I.Source.left c.args.input.now)

pub returns-in-Err-feed_all-clause-refused : goal.returns-in-Err-feed_all-clause-refused
returns-in-Err-feed_all-clause-refused g c = λ why is.
    let same : c.in-Err-feed_all.end ≡ unread.Refused why = cc in
    let failed : Unread → Result ℕ Unread = λ e. Err e in
    c.in-Err-feed_all.ensures.refused why (ap failed same)

pub returns-in-Ok-finish-clause-read : goal.returns-in-Ok-finish-clause-read
returns-in-Ok-finish-clause-read g c =
    let all = c.in-Ok-feed_all.ensures.all in
    fed_whole c.in-Ok-feed_all.field-0 _ _ c.feed_all.new.decoder (Spells c.in-Ok-finish.message) all c.in-Ok-feed_all.ensures.end (c.in-Ok-finish.ensures.found all.bytes all.fed).0

pub returns-in-Err-finish-clause-refused : goal.returns-in-Err-finish-clause-refused
returns-in-Err-finish-clause-refused g c = λ why is.
    let all = c.in-Ok-feed_all.ensures.all in
    let same : c.in-Err-finish.why ≡ why = cc in
    let P : Refused → Type 0 = λ r. RefusesSource (seen g.I.Source.left c.args.input.now c.feed_all.new.input) r in
    subst P same (refused_whole c.in-Ok-feed_all.field-0 _ _ c.feed_all.new.decoder c.in-Err-finish.why all c.in-Ok-feed_all.ensures.end (c.in-Err-finish.ensures.refused all.bytes all.fed))
