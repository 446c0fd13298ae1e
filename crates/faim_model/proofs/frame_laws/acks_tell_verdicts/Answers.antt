use Rattle.host_ledger.specs.declared.entries.Entry.TheVariants.{Posted}
use Rattle.faim_model.proofs.Ranged.{each_ranged}
use Rattle.faim_model.proofs.Telling.{tells_imad, tells_none, tells_verdict}
use Rattle.faim_model.proofs.frame_laws.acks_tell_verdicts.Goals as goal

pub returns-clause-kept : goal.returns-clause-kept
returns-clause-kept c config es h body resent moment v mark sound lawful in_calendar there =
    let ranged = each_ranged config es (Posted h body resent moment v) sound lawful in_calendar there in
    (tells_imad config.env h moment v mark ranged.0.imad, tells_verdict config.env h moment v mark ranged.0.imad ranged.1 ranged.2)

pub returns-clause-turned : goal.returns-clause-turned
returns-clause-turned c config why imad moment away = tells_none config.env why imad moment away
