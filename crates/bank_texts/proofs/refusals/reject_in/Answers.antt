use Rattle.std.proofs.Common.{◌≡◌, ◌∙◌, sym, ap, drop, length, Some, arith}
use Rattle.faim_base.specs.Digits.{read_number}
use Rattle.bank_texts.proofs.CodeLemmas.{code_digits, code_long, code_named}
use Rattle.bank_texts.proofs.refusals.reject_in.Goals as goal

pub returns-then-code-ne4-clause-none : goal.returns-then-code-ne4-clause-none
returns-then-code-ne4-clause-none c none r same = absurd (omega (arith, c.if-code-ne4.true, code_long r c.args.code.now same))

pub returns-in-Some-clause-named : goal.returns-in-Some-clause-named
returns-in-Some-clause-named c =
    let long : length c.args.code.now ≡ 4 = omega (arith, c.if-code-ne4.false) in
    let read : read_number (drop 1 c.args.code.now) ≡ Some c.in-Some.number =
    ap read_number (sym c.after.ensures) ∙ sym c.digits.ensures.value ∙ c.in-Some.is in
    (code_named c.args.code.now c.in-Some.number long read).0

pub returns-in-None-clause-none : goal.returns-in-None-clause-none
returns-in-None-clause-none c none r same =
    code_digits r c.args.code.now same (ap read_number (sym c.after.ensures) ∙ sym c.digits.ensures.value ∙ c.in-None.is)
