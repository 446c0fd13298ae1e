use Rattle.bank_books.proofs.AnsweredOnce.{answered_drafts, answered_once, came_kept, kept_came}
use Rattle.bank_books.proofs.laws.drafts_are_answered_once.Goals as goal

pub returns-clause-once : goal.returns-clause-once
returns-clause-once c = answered_once

pub returns-clause-drafts : goal.returns-clause-drafts
returns-clause-drafts c = answered_drafts

pub returns-clause-kept : goal.returns-clause-kept
returns-clause-kept c o es imad verdict lawful = (λ is. kept_came es imad verdict is, λ there. came_kept o es imad verdict lawful there)
