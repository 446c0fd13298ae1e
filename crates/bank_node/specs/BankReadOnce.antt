-- The law that a bank's list is read in one way, which the journal's readers ask for.
use Rattle.std.proofs.Common.{◌≡◌, ◌++◌, [], ap, le_trans, zero-lt-suc}
use Rattle.entry_codec.proofs.BankEntries.{one_bank_entry}
use Rattle.entry_codec.proofs.BankLengths.{bank_entry_small}
use Rattle.entry_codec.proofs.BankOpenings.{one_opening}
use Rattle.journaled_list.specs.Rules.{AreReadOnce}
use Rattle.bank_node.specs.BankRules.{bank_rules}

pub bank_read_once : AreReadOnce bank_rules
bank_read_once = record {
  one_opening = λ a b p q same. (one_opening a b [] [] p q (ap (λ l. l ++ []) same)).0;
  one_entry = λ o older x y rest more p q same. one_bank_entry o.endpoint x y rest more p.spelled q.spelled same;
  some_bytes = λ o older x p. le_trans (zero-lt-suc 11) (bank_entry_small x p.spelled.0).0;
}
