use Rattle.std.proofs.Common.{◌≡◌, ℕ, List, sym, ap, subst, ◌∙◌}
use Rattle.std.specs.Prelude.{IfErr}
use Rattle.faim_base.specs.declared.judgement.Refused.TheVariants.{Byte}
use Rattle.faim_message.specs.declared.form.Form.{Form}
use Rattle.faim_message.specs.Partial.{form_of}
use Rattle.faim_message.specs.Refusal.{Refuses}
use Rattle.faim_message.proofs.Decodings.{refused_undecoded}
use Rattle.faim_stream.specs.Fed.{Held}
use Rattle.faim_stream.proofs.Feeding.{stopped, going}
use Rattle.faim_stream.proofs.decoder.Decoder.answer.Goals as goal

pub returns-in-Some-clause-none_read : goal.returns-in-Some-clause-none_read
returns-in-Some-clause-none_read c fed h other =
    let d = c.args.self.now in
    refused_undecoded d.form fed (Byte c.in-Some.place) (stopped d c.in-Some.place fed (sym (ap (λ (e : Held). e.stop) c.self.view_is) ∙ c.in-Some.is) h) other

pub returns-in-None-clause-refused : goal.returns-in-None-clause-refused
returns-in-None-clause-refused c fed h =
    let d = c.self.inside in
    let same : c.as_slice.result.now ≡ fed =
    c.as_slice.ensures.value ∙ ap (λ (e : Held). e.bytes) c.self.view_is ∙ going c.args.self.now fed (sym (ap (λ (e : Held). e.stop) c.self.view_is) ∙ c.in-None.is) h in
    let P : List ℕ → Type 0 = λ l. IfErr c.message.result (λ e. Refuses (form_of d.part) l e) in
    let Q : Form → Type 0 = λ f. IfErr c.message.result (λ e. Refuses f fed e) in
    subst Q (ap (λ (e : Held). e.form) c.self.view_is) (subst P same c.message.ensures.refused)
