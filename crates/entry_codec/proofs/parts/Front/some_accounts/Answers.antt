use Rattle.std.proofs.Common.{◌≡◌, ℕ, suc, ◌+◌, ◌-◌, ◌<◌, List, sym, ◌∙◌, arith}
use Rattle.host_ledger.specs.declared.config.Account.{Account}
use Rattle.entry_codec.specs.Reading.{Fails, ◌>>=◌}
use Rattle.entry_codec.specs.Config.{account_at, some_accounts_at}
use Rattle.entry_codec.specs.declared.fault.CodecFault.{CodecFault}
use Rattle.entry_codec.specs.declared.fault.CodecFault.TheVariants as faults
use Rattle.entry_codec.proofs.Accounts.{joined, join_one, join_fails, join_end}
use Rattle.entry_codec.proofs.parts.Front.some_accounts.Goals as goal

-- one account of those that are left
one_left : (count read : ℕ) → read < count → count - read ≡ suc (count - (read + 1))
one_left count read lt = omega arith

failed : (fault : CodecFault) (done : List Account) (count read : ℕ) (bytes rest : List ℕ) → read < count → (some_accounts_at (count - read) rest >>= joined done) ≡ some_accounts_at count bytes → Fails fault (account_at rest) → Fails fault (some_accounts_at count bytes)
failed faults.NoMemory done count read bytes rest lt on fails = tt
failed faults.Damaged done count read bytes rest lt on fails = sym on ∙ join_fails done (count - read) (count - (read + 1)) rest (one_left count read lt) fails

pub returns-in-Err : goal.returns-in-Err
returns-in-Err c = failed c.in-Err.fault c.loop.list c.args.count c.loop.counter c.args.self.now.rest.now c.loop.self.rest.now c.loop-test.true c.loop.invariant c.in-Err.ensures

pub loop-preserved : goal.loop-preserved
loop-preserved c =
    rw c.in_ok-push-in-Ok.ensures.ok
    (sym (join_one c.loop.list c.in-Ok.account (c.args.count - c.loop.counter) (c.args.count - (c.loop.counter + 1)) c.loop.self.rest.now c.account.new.self.rest.now (one_left c.args.count c.loop.counter c.loop-test.true) c.in-Ok.ensures)
    ∙ c.loop.invariant)

pub returns : goal.returns
returns c = sym c.loop.invariant ∙ join_end c.loop.list (c.args.count - c.loop.counter) c.loop.self.rest.now (omega arith)
