use Rattle.faim_tags.proofs.Meaning.{some-begins, begins-some}
use Rattle.faim_tags.proofs.laws.steps_tell_what_begins.Goals as goal

pub returns-clause-read : goal.returns-clause-read
returns-clause-read c numbers bytes some listed read = some-begins numbers bytes some listed read

pub returns-clause-begun : goal.returns-clause-begun
returns-clause-begun c numbers bytes begins = begins-some numbers bytes begins
