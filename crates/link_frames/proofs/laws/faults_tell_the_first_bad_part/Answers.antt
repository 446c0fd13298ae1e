use Rattle.link_frames.proofs.Telling.{bad_length, bad_kind, bad_endpoint}
use Rattle.link_frames.proofs.laws.faults_tell_the_first_bad_part.Goals as goal

pub returns-clause-length : goal.returns-clause-length
returns-clause-length c = bad_length

pub returns-clause-kind : goal.returns-clause-kind
returns-clause-kind c = bad_kind

pub returns-clause-endpoint : goal.returns-clause-endpoint
returns-clause-endpoint c = bad_endpoint
