use Rattle.faim_message.proofs.Judge.{some-begins, begins-some}
use Rattle.faim_message.proofs.laws.reading_tells_what_begins.Goals as goal

pub returns-clause-read : goal.returns-clause-read
returns-clause-read c form bytes read = some-begins form bytes read

pub returns-clause-begun : goal.returns-clause-begun
returns-clause-begun c form bytes begins = begins-some form bytes begins
