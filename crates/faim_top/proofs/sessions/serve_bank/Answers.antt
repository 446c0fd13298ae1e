use Rattle.std.proofs.Common.{◌≡◌, ℕ, List, Option, Some, None, refl, sym, subst, Ok, Err, Result}
use Rattle.std.specs.Prelude.{IfSome}
use Rattle.site_core.specs.Told.{Told}
use Rattle.line_sessions.specs.declared.ends.SessionEnd.{SessionEnd}
use Rattle.node_session.specs.Views.{View}
use Rattle.faim_top.specs.declared.status.Status.{Status}
use Rattle.faim_top.specs.Accords.{StaysInAccord}
use Rattle.faim_top.proofs.SessionStatuses.{end_clock}
use Rattle.faim_top.proofs.sessions.serve_bank.Goals as goal

-- where the input is known
of_known : (left : Option (List ℕ)) (old new : Option Told) → ((whole : List ℕ) → left ≡ Some whole → StaysInAccord whole old new) → IfSome left (λ whole. StaysInAccord whole old new)
of_known None old new stays = tt
of_known (Some whole) old new stays = stays whole refl

pub returns-in-Ok-clause-accord : goal.returns-in-Ok-clause-accord
returns-in-Ok-clause-accord g c =
    let old : View = record { left = g.I.Source.left c.args.input.now; given = None; site = g.S.Site.told c.args.site.now } in
    let new : View = record { left = g.I.Source.left c.serve.new.input; given = None; site = g.S.Site.told c.serve.new.site } in
    of_known old.left old.site new.site
    (λ whole known config es trusted. c.sessions_keep_accord.ensures.inputs (Ok tt) old new whole config es (c.in-Ok.ensures.session None) known trusted)

pub returns-in-Err-clause-accord : goal.returns-in-Err-clause-accord
returns-in-Err-clause-accord g c =
    let old : View = record { left = g.I.Source.left c.args.input.now; given = None; site = g.S.Site.told c.args.site.now } in
    let new : View = record { left = g.I.Source.left c.serve.new.input; given = None; site = g.S.Site.told c.serve.new.site } in
    of_known old.left old.site new.site
    (λ whole known config es trusted. c.sessions_keep_accord.ensures.inputs (Err c.in-Err.end) old new whole config es (c.in-Err.ensures.session None) known trusted)

pub returns-in-Ok-clause-few : goal.returns-in-Ok-clause-few
returns-in-Ok-clause-few g c = let s = c.in-Ok.ensures.session None in record { piece = s.bytes; taken = s.came.taken; within = s.came.few }

pub returns-in-Err-clause-few : goal.returns-in-Err-clause-few
returns-in-Err-clause-few g c = let s = c.in-Err.ensures.session None in record { piece = s.bytes; taken = s.came.taken; within = s.came.few }
