use Rattle.std.proofs.Common.{◌≡◌, Some, sym, subst}
use Rattle.std.specs.Prelude.{IfOk}
use Rattle.faim_message.specs.declared.form.Form.{Form}
use Rattle.faim_message.specs.declared.form.Form.TheVariants.{Draft}
use Rattle.faim_message.specs.Decoded.{decoded}
use Rattle.faim_message.specs.Refusal.{Refuses}
use Rattle.bank_texts.specs.Reads.{IsDraftRead}
use Rattle.bank_texts.proofs.Faults.{refused_read}
use Rattle.bank_texts.proofs.drafts.DraftReader.read.Goals.{in-Ok, in-Err}
use Rattle.bank_texts.proofs.drafts.DraftReader.read.Goals as goal

pub returns : goal.returns
returns c =
    let text = c.args.payload.now in
    let is : c.self.inside.decoder.form ≡ Draft = c.self.invariant.0 in
    elim c.match-decode.branch [
      | in-Ok w ↦
          let m = w.in-Ok.message in
          let read : decoded Draft text ≡ Some m = subst (λ (f : Form). decoded f text ≡ Some m) is w.in-Ok.ensures.read in
          let form : m.form ≡ Draft = subst (λ (f : Form). m.form ≡ f) is w.in-Ok.ensures.found.1 in
          subst (λ r. IfOk r (IsDraftRead text)) (sym w.result-is) (read, form)
      | in-Err w ↦
          let refuses : Refuses Draft text w.in-Err.fault = subst (λ (f : Form). Refuses f text w.in-Err.fault) is w.in-Err.ensures.refused in
          subst (λ r. IfOk r (IsDraftRead text)) (sym w.result-is) (refused_read text w.in-Err.fault w.refused.result refuses w.refused.ensures)
    ]
