use Rattle.std.proofs.Common.{◌≡◌, ap}
use Rattle.faim_message.specs.declared.form.Form.TheVariants.{Input}
use Rattle.host_ledger.specs.declared.config.Config.{Config}
use Rattle.faim_model.specs.Submissions as submissions
use Rattle.faim_model.specs.Submissions.{submission}
use Rattle.host_turns.specs.declared.reading.ReadText.TheVariants as read
use Rattle.host_turns.specs.Reading.{numbered_of}
use Rattle.host_node.proofs.NextEntries.{keeps_strange, keeps_unnumbered, keeps_where, read_is}
use Rattle.host_node.proofs.following.keeps_message.Goals as goal

pub returns-in-Ok-Numbered : goal.returns-in-Ok-Numbered
returns-in-Ok-Numbered c =
    let env = c.args.state.now.config.env in
    let body = c.args.body.now in
    let m = c.in-Ok-Numbered.message in
    let is : submission env body ≡ numbered_of m =
    read_is c.config-config.result.now.env env body c.in-Ok-Numbered.field-0 (read.Numbered m) c.in-Ok-Numbered.ensures c.in-Ok-Numbered.field-0-is (ap (λ (k : Config). k.env) c.config-config.ensures.value) in
    keeps_where env body c.args.head.now m is (λ w found. ((c.decoded_is_spelled.ensures.found Input body w).0 found).1)
    (λ w found. c.submissions_show_their_bodies.ensures.back body w found) c.has_head.result c.has_head.ensures

pub returns-in-Ok-Unnumbered : goal.returns-in-Ok-Unnumbered
returns-in-Ok-Unnumbered c =
    let env = c.args.state.now.config.env in
    let is : submission env c.args.body.now ≡ submissions.Unnumbered =
    read_is c.config-config.result.now.env env c.args.body.now c.in-Ok-Unnumbered.field-0 read.Unnumbered c.in-Ok-Unnumbered.ensures c.in-Ok-Unnumbered.field-0-is (ap (λ (k : Config). k.env) c.config-config.ensures.value) in
    keeps_unnumbered env c.args.body.now c.args.head.now is

pub returns-in-Ok-Strange : goal.returns-in-Ok-Strange
returns-in-Ok-Strange c =
    let env = c.args.state.now.config.env in
    let is : submission env c.args.body.now ≡ submissions.Strange =
    read_is c.config-config.result.now.env env c.args.body.now c.in-Ok-Strange.field-0 read.Strange c.in-Ok-Strange.ensures c.in-Ok-Strange.field-0-is (ap (λ (k : Config). k.env) c.config-config.ensures.value) in
    keeps_strange env c.args.body.now c.args.head.now is
