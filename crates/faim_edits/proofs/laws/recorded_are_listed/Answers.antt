use Rattle.faim_edits.proofs.Listing.{listed_where}
use Rattle.faim_edits.proofs.laws.recorded_are_listed.Goals as goal

pub returns-clause-listed : goal.returns-clause-listed
returns-clause-listed c r = listed_where r
