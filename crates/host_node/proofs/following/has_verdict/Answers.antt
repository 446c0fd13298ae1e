use Rattle.std.proofs.Common.{◌≡◌, List, ℕ, ap, sym, ◌∙◌}
use Rattle.host_ledger.specs.declared.config.Config.{Config}
use Rattle.faim_model.specs.Submissions as submissions
use Rattle.faim_model.specs.Submissions.{submission, text_with}
use Rattle.host_turns.specs.declared.reading.ReadText.TheVariants as read
use Rattle.host_turns.specs.Reading.{numbered_of}
use Rattle.host_node.proofs.NextEntries.{has_strange, has_unnumbered, has_where, read_is}
use Rattle.host_node.proofs.following.has_verdict.Goals as goal

pub returns-in-Ok-Numbered : goal.returns-in-Ok-Numbered
returns-in-Ok-Numbered c =
    let s = c.args.state.now in
    let m = c.in-Ok-Numbered.message in
    let marked : c.as_slice.result.now ≡ text_with c.args.mark c.args.body.now = c.as_slice.ensures ∙ c.in_ok-text.ensures in
    let is : submission s.config.env (text_with c.args.mark c.args.body.now) ≡ numbered_of m =
    ap (λ (l : List ℕ). submission s.config.env l) (sym marked)
    ∙ read_is c.config-config.result.now.env s.config.env c.as_slice.result.now c.in-Ok-Numbered.field-0 (read.Numbered m) c.in-Ok-Numbered.ensures c.in-Ok-Numbered.field-0-is (ap (λ (k : Config). k.env) c.config-config.ensures.value) in
    has_where s.config s.entries c.args.head.now c.args.body.now c.args.mark c.args.moment c.args.wanted.now m c.decision_on-decision.result c.is_new.result is c.decision_on-decision.ensures c.is_new.ensures

pub returns-in-Ok-Unnumbered : goal.returns-in-Ok-Unnumbered
returns-in-Ok-Unnumbered c =
    let s = c.args.state.now in
    let marked : c.as_slice.result.now ≡ text_with c.args.mark c.args.body.now = c.as_slice.ensures ∙ c.in_ok-text.ensures in
    let is : submission s.config.env (text_with c.args.mark c.args.body.now) ≡ submissions.Unnumbered =
    ap (λ (l : List ℕ). submission s.config.env l) (sym marked)
    ∙ read_is c.config-config.result.now.env s.config.env c.as_slice.result.now c.in-Ok-Unnumbered.field-0 read.Unnumbered c.in-Ok-Unnumbered.ensures c.in-Ok-Unnumbered.field-0-is (ap (λ (k : Config). k.env) c.config-config.ensures.value) in
    has_unnumbered s.config s.entries c.args.head.now c.args.body.now c.args.mark c.args.moment c.args.wanted.now is

pub returns-in-Ok-Strange : goal.returns-in-Ok-Strange
returns-in-Ok-Strange c =
    let s = c.args.state.now in
    let marked : c.as_slice.result.now ≡ text_with c.args.mark c.args.body.now = c.as_slice.ensures ∙ c.in_ok-text.ensures in
    let is : submission s.config.env (text_with c.args.mark c.args.body.now) ≡ submissions.Strange =
    ap (λ (l : List ℕ). submission s.config.env l) (sym marked)
    ∙ read_is c.config-config.result.now.env s.config.env c.as_slice.result.now c.in-Ok-Strange.field-0 read.Strange c.in-Ok-Strange.ensures c.in-Ok-Strange.field-0-is (ap (λ (k : Config). k.env) c.config-config.ensures.value) in
    has_strange s.config s.entries c.args.head.now c.args.body.now c.args.mark c.args.moment c.args.wanted.now is
