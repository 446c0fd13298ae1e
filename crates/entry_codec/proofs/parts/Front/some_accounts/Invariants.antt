use Rattle.std.proofs.Common.{◌≡◌, ◌-◌}
use Rattle.entry_codec.specs.Reading.{◌>>=◌}
use Rattle.entry_codec.specs.Config.{some_accounts_at}
use Rattle.entry_codec.proofs.Accounts.{joined}
use Rattle.entry_codec.proofs.parts.Front.some_accounts.Given as goal

-- those so far, and those that the rest gives, are all of them
abbrev pub invariant-loop : goal.invariant-loop
invariant-loop l = (some_accounts_at (l.count - l.counter) l.self.rest.now >>= joined l.list) ≡ some_accounts_at l.count l.initial.self.rest.now
