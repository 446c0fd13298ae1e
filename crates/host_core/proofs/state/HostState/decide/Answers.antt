use Rattle.std.proofs.Common.{◌∙◌, sym}
use Rattle.std.specs.Str.{bytes_eq}
use Rattle.faim_model.specs.Verdicts.{has_body, has_imad, judged_new, place_of}
use Rattle.faim_model.proofs.Places.{none_with_body}
use Rattle.host_core.proofs.Known.{new_decided}
use Rattle.host_core.proofs.state.HostState.decide.Goals as goal

pub returns-in-None : goal.returns-in-None
returns-in-None c =
    let none = sym c.find.ensures ∙ c.in-None.is in
    c.verdict_on.ensures
    ∙ new_decided (bytes_eq c.args.message.now.head.imad.source c.args.line)
    (place_of (has_body c.args.message.now.head.imad c.args.message.now.body.now) c.args.self.now.entries)
    (place_of (has_imad c.args.message.now.head.imad) c.args.self.now.entries)
    (judged_new c.args.self.now.config c.args.self.now.entries c.args.line c.args.moment c.args.message.now.head c.args.message.now.edit)
    c.if-ne.ensures (none_with_body c.args.message.now.head.imad c.args.message.now.body.now c.args.self.now.entries none) none
