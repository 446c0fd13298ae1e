use Rattle.std.proofs.Common.{List, ℕ, sym, subst}
use Rattle.std.specs.Prelude.{IfOk, IsTrue, ◌↔◌, ◌≡◌, Some}
use Rattle.bank_books.specs.declared.entries.BankEntry.{BankEntry}
use Rattle.bank_books.specs.declared.entries.BankOpening.{BankOpening}
use Rattle.bank_turns.specs.KeptTexts.{Keeps, KeepsDraft}
use Rattle.bank_turns.specs.OutputTexts.{output_given}
use Rattle.bank_node.proofs.following.keeps_text.Goals as goal

pub returns-in-Drafted : goal.returns-in-Drafted
returns-in-Drafted c =
    let p = c.in-Drafted in
    subst (λ (x : BankEntry). IfOk c.keeps_draft.result (λ b. IsTrue b ↔ Keeps c.args.books.now.opening x)) (sym p.is)
    (subst (λ (l : List ℕ). IfOk c.keeps_draft.result (λ b. IsTrue b ↔ KeepsDraft p.imad l)) c.as_slice.ensures c.keeps_draft.ensures)

pub returns-in-Received : goal.returns-in-Received
returns-in-Received c =
    let p = c.in-Received in
    subst (λ (x : BankEntry). IfOk c.keeps_output.result (λ b. IsTrue b ↔ Keeps c.args.books.now.opening x)) (sym p.is)
    (subst (λ (l : List ℕ). IfOk c.keeps_output.result (λ b. IsTrue b ↔ (output_given c.args.books.now.opening l ≡ Some (record { at = p.at; text = l; next = p.next })))) c.as_slice-in-Received.ensures
    (subst (λ (o : BankOpening). IfOk c.keeps_output.result (λ b. IsTrue b ↔ (output_given o c.as_slice-in-Received.result.now ≡ Some (record { at = p.at; text = c.as_slice-in-Received.result.now; next = p.next })))) c.opening.ensures.value c.keeps_output.ensures))
