use Rattle.faim_message.proofs.Decodings.{decoded_spelled, spelled_as, none_decoded, none_spelled}
use Rattle.faim_message.proofs.laws.decoded_is_spelled.Goals as goal

pub returns-clause-found : goal.returns-clause-found
returns-clause-found c form bytes m = (decoded_spelled form bytes m, λ h. spelled_as form bytes m h.0 h.1)

pub returns-clause-none : goal.returns-clause-none
returns-clause-none c form bytes = (none_spelled form bytes, none_decoded form bytes)
