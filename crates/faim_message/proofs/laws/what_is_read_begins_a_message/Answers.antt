use Rattle.faim_message.proofs.PartialLemmas.{read_begins}
use Rattle.faim_message.proofs.Reasons.{begun_short, stops_short}
use Rattle.faim_message.proofs.laws.what_is_read_begins_a_message.Goals as goal

pub returns-clause-begins : goal.returns-clause-begins
returns-clause-begins c m form bytes h = read_begins m form bytes h

pub returns-clause-short : goal.returns-clause-short
returns-clause-short c m form bytes h = begun_short form bytes (read_begins m form bytes h)

pub returns-clause-on : goal.returns-clause-on
returns-clause-on c m form bytes p h s = stops_short form bytes p s (read_begins m form bytes h)
