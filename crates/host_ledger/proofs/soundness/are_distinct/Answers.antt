use Rattle.std.proofs.Common.{Option, sym, ◌∙◌, ap}
use Rattle.std.specs.Prelude.{bytes_eq, is_some}
use Rattle.std.specs.List.{IsDistinct}
use Rattle.host_ledger.specs.declared.config.Account.{Account}
use Rattle.host_ledger.specs.Soundness.{numbers_of}
use Rattle.host_ledger.proofs.Distinct.{passed, repeated, passed_all, copied_some}
use Rattle.host_ledger.proofs.soundness.are_distinct.Goals as goal

pub returns-then-is_some : goal.returns-then-is_some
returns-then-is_some c =
    let found = ap (λ (o : Option Account). is_some o) (sym c.account_in.ensures) ∙ copied_some c.account_in.result ∙ sym c.is_some.ensures ∙ c.if-is_some.true in
    repeated c.loop-account.left.now c.in-Some.rest.now c.in-Some.account.now (IsDistinct bytes_eq (numbers_of c.args.accounts.now)) c.in-Some.ensures.cases.0 found c.loop-account.invariant

pub loop-account-preserved : goal.loop-account-preserved
loop-account-preserved c =
    let none = ap (λ (o : Option Account). is_some o) (sym c.account_in.ensures) ∙ copied_some c.account_in.result ∙ sym c.is_some.ensures ∙ c.if-is_some.false in
    passed c.loop-account.left.now c.in-Some.rest.now c.in-Some.account.now (IsDistinct bytes_eq (numbers_of c.args.accounts.now)) c.in-Some.ensures.cases.0 none c.loop-account.invariant

pub returns : goal.returns
returns c = passed_all c.loop-account.left.now (IsDistinct bytes_eq (numbers_of c.args.accounts.now)) c.in_default.ensures.cases c.loop-account.invariant
