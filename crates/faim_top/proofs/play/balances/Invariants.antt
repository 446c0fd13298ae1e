use Rattle.std.proofs.Common.{◌≡◌, take}
use Rattle.faim_top.specs.Replay.{balances_of}
use Rattle.faim_top.proofs.play.balances.Given as goal

abbrev pub invariant-loop-account : goal.invariant-loop-account
invariant-loop-account l = l.balances ≡ balances_of l.state.config l.state.entries (take l.account-index l.accounts)
