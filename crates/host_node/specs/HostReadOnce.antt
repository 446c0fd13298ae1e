-- The law that a host's list is read in one way, which the journal's readers ask for.
use Rattle.std.proofs.Common.{◌++◌, [], ap, le_trans, zero-lt-suc}
use Rattle.entry_codec.proofs.Configs.{one_config}
use Rattle.entry_codec.proofs.Entries.{one_entry}
use Rattle.entry_codec.proofs.Lengths.{entry_small}
use Rattle.journaled_list.specs.Rules.{AreReadOnce}
use Rattle.host_node.specs.HostList.{host_rules}

pub host_read_once : AreReadOnce host_rules
host_read_once = record {
  one_opening = λ a b p q same. (one_config a b [] [] p q (ap (λ l. l ++ []) same)).0;
  one_entry = λ c older x y rest more p q same. one_entry x y rest more p.0 q.0 same;
  some_bytes = λ c older x p. le_trans (zero-lt-suc 8) (entry_small x p.0).0;
}
