use Rattle.std.proofs.Common.{[], subst}
use Rattle.std.specs.Prelude.{IfErr}
use Rattle.faim_message.specs.declared.form.Form.{Form}
use Rattle.faim_message.specs.Refusal.{Refuses}
use Rattle.faim_stream.proofs.decoder.Decoder.decode.Goals as goal

pub returns-clause-refused : goal.returns-clause-refused
returns-clause-refused c =
    subst (λ (f : Form). IfErr c.finish_and_restart.result (λ e. Refuses f c.args.bytes.now e)) c.feed.ensures.form
    (c.finish_and_restart.ensures.refused c.args.bytes.now (c.feed.ensures.fed [] c.requires))
