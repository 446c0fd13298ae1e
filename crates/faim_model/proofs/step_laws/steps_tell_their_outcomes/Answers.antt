use Rattle.std.proofs.Common.{ap}
use Rattle.faim_model.specs.declared.decisions.HostOutcome.TheVariants.{Known, NotLater, Recorded, Rolled, Strange, TurnedAway}
use Rattle.faim_model.specs.Steps.{HostStep}
use Rattle.faim_model.proofs.Outcomes.{recorded_count, retrieved_count, rolled_count, told}
use Rattle.faim_model.proofs.step_laws.steps_tell_their_outcomes.Goals as goal

pub returns-clause-recorded : goal.returns-clause-recorded
returns-clause-recorded c config es f reading imad v is =
    let w = told config es f reading (Recorded imad v) is in
    ((w.0, w.1, w.2, w.4, ap (λ (s : HostStep). s.adds) w.5), recorded_count config es f reading imad v is)

pub returns-clause-known : goal.returns-clause-known
returns-clause-known c config es f reading imad v is = told config es f reading (Known imad v) is

pub returns-clause-turned : goal.returns-clause-turned
returns-clause-turned c config es f reading why is = let w = told config es f reading (TurnedAway why) is in (w.1, w.2)

pub returns-clause-retrieved : goal.returns-clause-retrieved
returns-clause-retrieved c = retrieved_count

pub returns-clause-rolled : goal.returns-clause-rolled
returns-clause-rolled c config es f reading date is =
    (ap (λ (s : HostStep). s.adds) (told config es f reading (Rolled date) is).2, rolled_count config es f reading date is)

pub returns-clause-not_later : goal.returns-clause-not_later
returns-clause-not_later c config es f reading current is = (told config es f reading (NotLater current) is).4

pub returns-clause-strange : goal.returns-clause-strange
returns-clause-strange c config es f reading is = (told config es f reading Strange is).1
