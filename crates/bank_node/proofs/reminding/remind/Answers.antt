use Rattle.std.proofs.Common.{ap, arith, None, ◌∙◌}
use Rattle.bank_books.specs.declared.outcomes.BankOutcome.TheVariants.{Resent}
use Rattle.bank_books.specs.Drafts.{unanswered}
use Rattle.bank_books.specs.State.{BankList}
use Rattle.bank_node.proofs.Reminded.{as_many, at_most_64}
use Rattle.bank_node.proofs.reminding.remind.Goals as goal

pub overflow_cast-found : goal.overflow_cast-found
overflow_cast-found c =
    let es = c.args.list.now.entries in
    let are = c.as_slice-found.ensures ∙ c.in_ok-places.ensures ∙ ap (λ (b : BankList). unanswered 64 b.entries) c.books.ensures.value in
    omega (arith, at_most_64 es, as_many es c.as_slice-found.result.now are)

pub returns-clause-told : goal.returns-clause-told
returns-clause-told c =
    let es = c.args.list.now.entries in
    let are = c.as_slice-found.ensures ∙ c.in_ok-places.ensures ∙ ap (λ (b : BankList). unanswered 64 b.entries) c.books.ensures.value in
    c.answered.ensures ∙ (λ k. record { outcome = Resent (as_many es c.as_slice-found.result.now are k); entry = None })
