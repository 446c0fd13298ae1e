use Rattle.std.proofs.Common.{◌≡◌, ◌++◌, take}
use Rattle.std.specs.List.{flat_map}
use Rattle.entry_codec.specs.Config.{account_bytes}
use Rattle.entry_codec.proofs.config_spelling.put_each.Given as goal

abbrev pub invariant-loop-account : goal.invariant-loop-account
invariant-loop-account l = l.out.items ≡ l.initial.out.items ++ flat_map account_bytes (take l.account-index l.accounts)
