use Rattle.std.proofs.Common.{arith}
use Rattle.torn_journal.proofs.Questions.{head_payload}
use Rattle.torn_journal.proofs.reading.judged.Goals as goal

pub returns-clause-head : goal.returns-clause-head
returns-clause-head c = λ rest count bytes. head_payload c.args.head.now rest c.from_be_bytes-length.result c.args.count c.requires (λ i. omega (arith, c.type_inv.head i)) count bytes (omega arith) (omega arith) c.from_be_bytes-length.ensures
