use Rattle.std.proofs.Common.{◌≡◌, ◌++◌, Some, List, ap, map, refl, subst, sym, ◌∙◌}
use Rattle.std.specs.Option.{option_copied}
use Rattle.std.specs.Prelude.{OnOk}
use Rattle.faim_base.specs.declared.judgement.Verdict.{Verdict}
use Rattle.faim_base.specs.declared.judgement.Verdict.TheVariants.{Refused, Taken}
use Rattle.faim_base.specs.Numbers.{IsMoment}
use Rattle.host_ledger.specs.declared.entries.Entry.TheVariants.{Posted, Roll}
use Rattle.link_frames.specs.Frames.{Content as Frame, frame_bytes}
use Rattle.faim_model.specs.Turns.{entry_at}
use Rattle.host_node.proofs.AtPlaces.{ack_fits, none_missing, outputs_fit, refused_sent, roll_sent, taken_given, taken_sent}
use Rattle.host_node.proofs.resending.send_entry.Goals as goal

pub send_taken-requires-clause-given : goal.send_taken-requires-clause-given
send_taken-requires-clause-given c =
    let s = c.args.state.now in
    let p = c.in-Some-Posted in
    let stands : entry_at s.entries c.args.place ≡ Some (Posted p.head p.field-0-1 p.field-0-2 p.moment (Taken c.in-Taken.dest c.in-Taken.seq)) =
    sym p.ensures ∙ ap Some p.field-0-is ∙ ap (λ (v : Verdict). Some (Posted p.head p.field-0-1 p.field-0-2 p.moment v)) c.in-Taken.is in
    taken_given s.config s.entries c.args.place p.head p.field-0-1 p.field-0-2 p.moment c.in-Taken.dest c.in-Taken.seq stands

pub send_taken-requires-clause-ack : goal.send_taken-requires-clause-ack
send_taken-requires-clause-ack c =
    let s = c.args.state.now in
    let p = c.in-Some-Posted in
    let timed : IsMoment p.moment = subst IsMoment c.get-minutes.ensures.value c.get-minutes.ensures.range in
    ack_fits s.config s.entries c.args.place c.args.mark (Posted p.head p.field-0-1 p.field-0-2 p.moment p.verdict) c.config-config.ensures.sound
    c.config-config.ensures.lawful timed c.requires.mark (sym p.ensures ∙ ap Some p.field-0-is) _ refl

pub send_taken-requires-clause-output : goal.send_taken-requires-clause-output
send_taken-requires-clause-output c =
    let s = c.args.state.now in
    let p = c.in-Some-Posted in
    let timed : IsMoment p.moment = subst IsMoment c.get-minutes.ensures.value c.get-minutes.ensures.range in
    let stands : entry_at s.entries c.args.place ≡ Some (Posted p.head p.field-0-1 p.field-0-2 p.moment (Taken c.in-Taken.dest c.in-Taken.seq)) =
    sym p.ensures ∙ ap Some p.field-0-is ∙ ap (λ (v : Verdict). Some (Posted p.head p.field-0-1 p.field-0-2 p.moment v)) c.in-Taken.is in
    outputs_fit s.config s.entries c.args.place c.args.mark (Posted p.head p.field-0-1 p.field-0-2 p.moment (Taken c.in-Taken.dest c.in-Taken.seq))
    c.config-config.ensures.sound c.config-config.ensures.lawful timed c.requires.mark stands c.in-Taken.dest
    (taken_given s.config s.entries c.args.place p.head p.field-0-1 p.field-0-2 p.moment c.in-Taken.dest c.in-Taken.seq stands)

pub send_ack-requires-clause-fits : goal.send_ack-requires-clause-fits
send_ack-requires-clause-fits c =
    let s = c.args.state.now in
    let p = c.in-Some-Posted in
    let timed : IsMoment p.moment = subst IsMoment c.get-minutes.ensures.value c.get-minutes.ensures.range in
    ack_fits s.config s.entries c.args.place c.args.mark (Posted p.head p.field-0-1 p.field-0-2 p.moment p.verdict) c.config-config.ensures.sound
    c.config-config.ensures.lawful timed c.requires.mark (sym p.ensures ∙ ap Some p.field-0-is) _ refl

pub send_ends-requires-clause-fits : goal.send_ends-requires-clause-fits
send_ends-requires-clause-fits c =
    let s = c.args.state.now in
    let r = c.in-Some-Roll in
    let timed : IsMoment r.moment = subst IsMoment c.get-minutes-in-Some-Roll.ensures.value c.get-minutes-in-Some-Roll.ensures.range in
    outputs_fit s.config s.entries c.args.place c.args.mark (Roll r.moment r.field-0-1) c.config-config.ensures.sound
    c.config-config.ensures.lawful timed c.requires.mark (sym r.ensures ∙ ap Some r.field-0-is)

pub unreachable-requires : goal.unreachable-requires
unreachable-requires c =
    none_missing c.args.state.now.entries c.args.place c.requires.place (sym c.entry.ensures ∙ ap option_copied c.in-None.is)

pub returns-in-Taken : goal.returns-in-Taken
returns-in-Taken c =
    let s = c.args.state.now in
    let p = c.in-Some-Posted in
    let stands : entry_at s.entries c.args.place ≡ Some (Posted p.head p.field-0-1 p.field-0-2 p.moment (Taken c.in-Taken.dest c.in-Taken.seq)) =
    sym p.ensures ∙ ap Some p.field-0-is ∙ ap (λ (v : Verdict). Some (Posted p.head p.field-0-1 p.field-0-2 p.moment v)) c.in-Taken.is in
    subst (λ (l : List Frame). OnOk c.send_taken.result (c.send_taken.new.outbox ≡ c.args.outbox.now ++ map frame_bytes l))
    (sym (taken_sent s.config s.entries c.args.place c.args.mark p.head p.field-0-1 p.field-0-2 p.moment c.in-Taken.dest c.in-Taken.seq
    c.config-config.ensures.lawful stands)) c.send_taken.ensures

pub returns-in-Refused : goal.returns-in-Refused
returns-in-Refused c =
    let s = c.args.state.now in
    let p = c.in-Some-Posted in
    let stands : entry_at s.entries c.args.place ≡ Some (Posted p.head p.field-0-1 p.field-0-2 p.moment (Refused c.in-Refused.field-0)) =
    sym p.ensures ∙ ap Some p.field-0-is ∙ ap (λ (v : Verdict). Some (Posted p.head p.field-0-1 p.field-0-2 p.moment v)) c.in-Refused.is in
    subst (λ (l : List Frame). OnOk c.send_ack.result (c.send_ack.new.outbox ≡ c.args.outbox.now ++ map frame_bytes l))
    (sym (refused_sent s.config s.entries c.args.place c.args.mark p.head p.field-0-1 p.field-0-2 p.moment c.in-Refused.field-0 stands)) c.send_ack.ensures

pub returns-in-Some-Roll : goal.returns-in-Some-Roll
returns-in-Some-Roll c =
    let s = c.args.state.now in
    let r = c.in-Some-Roll in
    subst (λ (l : List Frame). OnOk c.send_ends.result (c.send_ends.new.outbox ≡ c.args.outbox.now ++ map frame_bytes l))
    (sym (roll_sent s.config s.entries c.args.place c.args.mark r.moment r.field-0-1 (sym r.ensures ∙ ap Some r.field-0-is))) c.send_ends.ensures
