use Rattle.std.proofs.Common.{◌≡◌, None, Some, refl, sym, ap, subst, ◌∙◌}
use Rattle.faim_base.specs.declared.judgement.Refused.{Refused}
use Rattle.faim_message.specs.Spelling.{Content, Spells}
use Rattle.faim_message.specs.Refusal.{Refuses, missing}
use Rattle.faim_message.proofs.Judge.{fails-refuses, ends-spells, ends-missing}
use Rattle.faim_message.specs.Decoded.{decoded}
use Rattle.faim_message.proofs.Decodings.{spelled_as, refused_undecoded}
use Rattle.faim_message.proofs.partial.MessagePart.message.Goals as goal

pub returns-in-Err-clause-refused : goal.returns-in-Err-clause-refused
returns-in-Err-clause-refused c = fails-refuses c.args.self.now.form c.args.bytes.now c.in-Err.refused c.in-Err.ensures

pub message_of-requires : goal.message_of-requires
message_of-requires c =
    let none : missing c.args.self.now.form c.in-Ok.read.0.items ≡ None = ap (missing c.args.self.now.form) (sym c.as_slice.ensures.value) ∙ sym c.missing_number.ensures ∙ c.in-None.is in
    (ends-spells c.args.self.now.form c.args.bytes.now c.in-Ok.read.0.items c.in-Ok.read.1 c.in-Ok.ensures none).sound

pub returns-in-Some-clause-refused : goal.returns-in-Some-clause-refused
returns-in-Some-clause-refused c =
    let some : missing c.args.self.now.form c.in-Ok.read.0.items ≡ Some c.in-Some.number = ap (missing c.args.self.now.form) (sym c.as_slice.ensures.value) ∙ sym c.missing_number.ensures ∙ c.in-Some.is in
    let P : Refused → Type 0 = λ r. Refuses c.args.self.now.form c.args.bytes.now r in
    subst P (sym c.lacking.ensures) (ends-missing c.args.self.now.form c.args.bytes.now c.in-Ok.read.0.items c.in-Ok.read.1 c.in-Some.number c.in-Ok.ensures some)

pub returns-in-None-clause-found : goal.returns-in-None-clause-found
returns-in-None-clause-found c =
    let none : missing c.args.self.now.form c.in-Ok.read.0.items ≡ None = ap (missing c.args.self.now.form) (sym c.as_slice.ensures.value) ∙ sym c.missing_number.ensures ∙ c.in-None.is in
    let P : Content → Type 0 = λ m. Spells m c.args.bytes.now in
    (subst P (sym c.message_of.ensures) (ends-spells c.args.self.now.form c.args.bytes.now c.in-Ok.read.0.items c.in-Ok.read.1 c.in-Ok.ensures none), ap (λ (m : Content). m.form) c.message_of.ensures)

pub returns-in-Err-clause-none_read : goal.returns-in-Err-clause-none_read
returns-in-Err-clause-none_read c other =
    refused_undecoded c.args.self.now.form c.args.bytes.now c.in-Err.refused (fails-refuses c.args.self.now.form c.args.bytes.now c.in-Err.refused c.in-Err.ensures) other

pub returns-in-Some-clause-none_read : goal.returns-in-Some-clause-none_read
returns-in-Some-clause-none_read c other =
    let some : missing c.args.self.now.form c.in-Ok.read.0.items ≡ Some c.in-Some.number = ap (missing c.args.self.now.form) (sym c.as_slice.ensures.value) ∙ sym c.missing_number.ensures ∙ c.in-Some.is in
    let P : Refused → Type 0 = λ r. Refuses c.args.self.now.form c.args.bytes.now r in
    refused_undecoded c.args.self.now.form c.args.bytes.now c.lacking.result
    (subst P (sym c.lacking.ensures) (ends-missing c.args.self.now.form c.args.bytes.now c.in-Ok.read.0.items c.in-Ok.read.1 c.in-Some.number c.in-Ok.ensures some)) other

pub returns-in-None-clause-read : goal.returns-in-None-clause-read
returns-in-None-clause-read c =
    let none : missing c.args.self.now.form c.in-Ok.read.0.items ≡ None = ap (missing c.args.self.now.form) (sym c.as_slice.ensures.value) ∙ sym c.missing_number.ensures ∙ c.in-None.is in
    let P : Content → Type 0 = λ m. decoded c.args.self.now.form c.args.bytes.now ≡ Some m in
    subst P (sym c.message_of.ensures) (spelled_as c.args.self.now.form c.args.bytes.now _ (ends-spells c.args.self.now.form c.args.bytes.now c.in-Ok.read.0.items c.in-Ok.read.1 c.in-Ok.ensures none) refl)
