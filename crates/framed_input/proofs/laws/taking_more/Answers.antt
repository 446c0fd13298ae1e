use Rattle.std.proofs.KnownBytes.{Consumes-trans}
use Rattle.framed_input.proofs.InputFrames.{takes_more}
use Rattle.framed_input.proofs.laws.taking_more.Goals as goal

pub returns-clause-read : goal.returns-clause-read
returns-clause-read c = takes_more

pub returns-clause-source : goal.returns-clause-source
returns-clause-source c = λ bytes first left rest old new takes known. Consumes-trans first left rest bytes takes.more known takes.source
