use Rattle.faim_model.proofs.Conserved.{conserved}
use Rattle.faim_model.proofs.Floors.{floors_kept}
use Rattle.faim_model.proofs.InOrder.{in_order}
use Rattle.faim_model.proofs.Once.{at_most_once}
use Rattle.world_model.proofs.Promised.{keeps_acks, sends_messages, sends_outputs, tells_one_verdict}
use Rattle.world_model.proofs.laws.safe_worlds_keep_the_promises.Goals as goal

pub returns-clause-posted_once : goal.returns-clause-posted_once
returns-clause-posted_once c w s = at_most_once w.config w.entries s.lawful

pub returns-clause-money : goal.returns-clause-money
returns-clause-money c w s = conserved w.config w.entries s.values.config s.lawful

pub returns-clause-floors : goal.returns-clause-floors
returns-clause-floors c w s a there = floors_kept w.config w.entries a s.values.config s.lawful there

pub returns-clause-messages : goal.returns-clause-messages
returns-clause-messages c w s = sends_messages w s

pub returns-clause-acks : goal.returns-clause-acks
returns-clause-acks c w s = keeps_acks w s

pub returns-clause-one_verdict : goal.returns-clause-one_verdict
returns-clause-one_verdict c w s = tells_one_verdict w s

pub returns-clause-outputs : goal.returns-clause-outputs
returns-clause-outputs c w s = sends_outputs w s

pub returns-clause-without_gaps : goal.returns-clause-without_gaps
returns-clause-without_gaps c w s = in_order w.config w.entries s.lawful

pub returns-clause-from_banks : goal.returns-clause-from_banks
returns-clause-from_banks c w f s there = s.submits f there

pub returns-clause-drafts : goal.returns-clause-drafts
returns-clause-drafts c w h body resent moment v s there bank = s.bodies h body resent moment v there bank

pub returns-clause-verdicts : goal.returns-clause-verdicts
returns-clause-verdicts c w e s bank = s.verdicts e bank

pub returns-clause-inboxes : goal.returns-clause-inboxes
returns-clause-inboxes c w e s bank = s.inboxes e bank
