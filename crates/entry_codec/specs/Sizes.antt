-- How many bytes the spellings have (docs/FORMATS.md, "Entries" and "Bytes of configurations").
use Rattle.std.specs.Prelude.{ℕ, ◌+◌, ◌*◌, length}
use Rattle.faim_base.specs.Limits.{longest_message}
use Rattle.faim_base.specs.declared.judgement.Verdict.{Verdict}
use Rattle.faim_base.specs.declared.judgement.Verdict.TheVariants.{Taken, Refused}
use Rattle.host_ledger.specs.declared.entries.Entry.{Entry}
use Rattle.host_ledger.specs.declared.entries.Entry.TheVariants.{Posted, Roll}
use Rattle.host_ledger.specs.Soundness.{account_limit}

abbrev pub verdict_size : Verdict → ℕ
verdict_size (Taken dest seq) = 13
verdict_size (Refused r) = 4

-- 55 bytes, the verdict and the body; or the nine of a Roll
abbrev pub entry_size : Entry → ℕ
entry_size (Posted head body resent moment verdict) = 55 + verdict_size verdict + length body
entry_size (Roll moment date) = 9

-- a Roll has the fewest bytes
abbrev pub shortest_entry : ℕ
shortest_entry = 9

-- a message that was taken and has the longest body has the most
abbrev pub longest_entry : ℕ
longest_entry = 68 + longest_message

-- 12 bytes, and 33 for each account
abbrev pub config_size : ℕ → ℕ
config_size accounts = 12 + 33 * accounts

abbrev pub longest_config : ℕ
longest_config = config_size account_limit
