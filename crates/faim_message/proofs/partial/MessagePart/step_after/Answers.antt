use Rattle.std.proofs.Common.{[], ◌∷◌, ◌++◌, ◌∙◌}
use Rattle.faim_message.proofs.PartialLemmas.{left-push, some_tags}
use Rattle.faim_message.proofs.partial.MessagePart.step_after.Goals as goal

pub returns-clause-goes : goal.returns-clause-goes
returns-clause-goes c form tags v k same =
    c.step_break.ensures.goes form (tags ++ v ∷ [])
    (record { form_is = k.form_is; any_is = some_tags tags v; left_is = left-push form tags v c.get.result c.args.self.now.remaining c.take_away.new.self k.left_is (c.get.ensures.value ∙ same) c.take_away.ensures })
