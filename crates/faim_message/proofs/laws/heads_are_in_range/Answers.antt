use Rattle.faim_message.proofs.HeadRanges.{read_in_range}
use Rattle.faim_message.proofs.laws.heads_are_in_range.Goals as goal

pub returns-clause-imad : goal.returns-clause-imad
returns-clause-imad c text m h read e = (read_in_range text m h read e).imad

pub returns-clause-sender : goal.returns-clause-sender
returns-clause-sender c text m h read e = (read_in_range text m h read e).sender

pub returns-clause-receiver : goal.returns-clause-receiver
returns-clause-receiver c text m h read e = (read_in_range text m h read e).receiver

pub returns-clause-code : goal.returns-clause-code
returns-clause-code c text m h read e = let r = read_in_range text m h read e in (r.code_length, r.code_text)

pub returns-clause-kind : goal.returns-clause-kind
returns-clause-kind c text m h read e = (read_in_range text m h read e).kind

pub returns-clause-sub : goal.returns-clause-sub
returns-clause-sub c text m h read e = (read_in_range text m h read e).sub

pub returns-clause-amount : goal.returns-clause-amount
returns-clause-amount c text m h read e = (read_in_range text m h read e).amount
