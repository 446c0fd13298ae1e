use Rattle.std.proofs.Common.{◌∙◌, ap, sym, ℕ}
use Rattle.faim_model.specs.declared.decisions.HostOutcome.TheVariants.{NotLater, Rolled, Strange}
use Rattle.faim_model.specs.Steps.{HostStep}
use Rattle.faim_model.proofs.Outcomes.{gives_again, rolls_on, stays_on, strange_where, takes_turn, told}
use Rattle.faim_model.proofs.step_laws.requests_settle_steps.Goals as goal

pub returns-clause-strange : goal.returns-clause-strange
returns-clause-strange c config es f reading = ((λ is. (told config es f reading Strange is).0), strange_where config es f reading)

pub returns-clause-rolled : goal.returns-clause-rolled
returns-clause-rolled c config es f reading date = (
  (λ is. let w = told config es f reading (Rolled date) is in (w.0, w.1)),
  (λ asked. ap (λ (s : HostStep). s.outcome) (rolls_on config es f reading date asked.0 asked.1)),
)

pub returns-clause-not_later : goal.returns-clause-not_later
returns-clause-not_later c config es f reading current = (
  (λ is. let w = told config es f reading (NotLater current) is in (w.0, w.1, w.2, w.3)),
  (λ asked. ap (λ (s : HostStep). s.outcome) (stays_on config es f reading asked.0 asked.1 asked.2)
      ∙ ap (λ (date : ℕ). NotLater date) (sym asked.3)),
)

pub returns-clause-submitted : goal.returns-clause-submitted
returns-clause-submitted c = takes_turn

pub returns-clause-retrieved : goal.returns-clause-retrieved
returns-clause-retrieved c = gives_again
