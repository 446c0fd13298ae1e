use Rattle.faim_model.specs.Acks.{turned_ack, verdict_ack}
use Rattle.faim_model.specs.Deliveries.{output_message}
use Rattle.faim_model.proofs.Covering.{entry_ack_sound, output_sound}
use Rattle.faim_model.proofs.Written.{env_text, read_again, turned_ack_sound}
use Rattle.faim_model.proofs.frame_laws.answers_are_messages.Goals as goal

pub returns-clause-ack : goal.returns-clause-ack
returns-clause-ack c config es h body resent moment v mark sound lawful in_calendar there text =
    let is = entry_ack_sound config es h body resent moment v mark sound lawful in_calendar there text in
    (is, read_again (verdict_ack config.env h moment v mark) is)

pub returns-clause-turned : goal.returns-clause-turned
returns-clause-turned c config why imad moment sound away imad_sound =
    let is = turned_ack_sound config.env why imad moment (env_text config.env sound.env) away imad_sound in
    (is, read_again (turned_ack config.env why imad moment) is)

pub returns-clause-output : goal.returns-clause-output
returns-clause-output c config es e i mark sound lawful in_calendar there text =
    let is = output_sound config es e i mark sound lawful in_calendar there text in
    (is, read_again (output_message config.env e i mark) is)
