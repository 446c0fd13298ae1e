use Rattle.std.proofs.Common.{◌≡◌, List, ℕ, Some, ap, sym, ◌∙◌}
use Rattle.world_text.specs.declared.script.Act.{Act}
use Rattle.world_text.specs.declared.script.Act.TheVariants.{Submit}
use Rattle.faim_top.specs.Replay.{act_turn, after_turn, outcome_of}
use Rattle.faim_top.proofs.play.act.Goals as goal

pub returns-in_ok-submitted-in-Submit-clause-outcome : goal.returns-in_ok-submitted-in-Submit-clause-outcome
returns-in_ok-submitted-in-Submit-clause-outcome c =
    let s = c.args.state.now in
    let same : Submit c.in-Submit.line c.as_slice.result.now ≡ c.args.act.now = ap (λ (text : List ℕ). Submit c.in-Submit.line text) c.as_slice.ensures ∙ sym c.in-Submit.is in
    ap Some c.in_ok-submitted-in-Submit.ensures.outcome ∙ ap (λ (a : Act). outcome_of (act_turn s.config s.entries c.args.reading a)) same

pub returns-in_ok-submitted-in-Submit-clause-entries : goal.returns-in_ok-submitted-in-Submit-clause-entries
returns-in_ok-submitted-in-Submit-clause-entries c =
    let s = c.args.state.now in
    let same : Submit c.in-Submit.line c.as_slice.result.now ≡ c.args.act.now = ap (λ (text : List ℕ). Submit c.in-Submit.line text) c.as_slice.ensures ∙ sym c.in-Submit.is in
    c.in_ok-submitted-in-Submit.ensures.entries ∙ ap (λ (a : Act). after_turn (act_turn s.config s.entries c.args.reading a) s.entries) same
