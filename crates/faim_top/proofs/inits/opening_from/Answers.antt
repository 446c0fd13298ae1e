use Rattle.std.proofs.Common.{◌≡◌, List, ℕ, subst, Ok}
use Rattle.world_text.specs.declared.script.ScriptFault.{ScriptFault}
use Rattle.world_text.specs.Reading.{TextFails}
use Rattle.faim_top.specs.Inits.{IsTextWith}
use Rattle.faim_top.proofs.ReadTexts.{opened, refused_text}
use Rattle.faim_top.proofs.inits.opening_from.Goals as goal

pub returns-in-Ok-read-clause-opening : goal.returns-in-Ok-read-clause-opening
returns-in-Ok-read-clause-opening g c =
    let made = g.T.Opening.made in
    let read = c.in-Ok.ensures.all in
    let all = opened made g.met.T.Opening.long_texts _ _ c.in-Ok.text c.in-Ok-read.opening read.0 read.1
    (subst (λ (t : List ℕ). made.opening_of t ≡ Ok c.in-Ok-read.opening) c.as_slice.ensures c.in-Ok-read.ensures.opening) in
    (c.in-Ok-read.ensures.sound, all.0, all.1)

pub returns-in-Err-Fault-clause-fault : goal.returns-in-Err-Fault-clause-fault
returns-in-Err-Fault-clause-fault g c = λ f is.
    let made = g.T.Opening.made in
    let read = c.in-Ok.ensures.all in
    let same : c.in-Err-Fault.fault ≡ f = cc in
    subst (λ (e : ScriptFault). IsTextWith made (g.I.Source.left c.args.input.now) e) same
    (refused_text made g.met.T.Opening.long_texts _ _ c.in-Ok.text c.in-Err-Fault.field-0 c.in-Err-Fault.fault c.in-Err-Fault.field-0-is read.0 read.1
    (subst (λ (t : List ℕ). TextFails c.in-Err-Fault.field-0 (made.opening_of t)) c.as_slice.ensures c.in-Err-Fault.ensures.opening))
