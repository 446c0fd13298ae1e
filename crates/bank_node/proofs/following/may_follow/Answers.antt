use Rattle.std.proofs.Common.{refl}
use Rattle.std.specs.Prelude.{IsTrue, ◌↔◌}
use Rattle.std.proofs.lemmas.Result.{IfOk-weaker}
use Rattle.bank_turns.specs.KeptTexts.{BankMayFollow, Keeps}
use Rattle.bank_node.proofs.following.may_follow.Goals as goal

pub returns : goal.returns
returns c =
    let b = c.args.books.now in
    IfOk-weaker c.keeps_text.result (λ t. IsTrue t ↔ Keeps b.opening c.args.entry.now) (λ t. IsTrue t ↔ BankMayFollow b.opening b.entries c.args.entry.now)
    (λ t keeps. (
      (λ is. record { spelled = c.requires; follows = c.if-not-may_follow.ensures.0 refl; keeps = keeps.0 is }),
      (λ may. keeps.1 may.keeps),
    ))
    c.keeps_text.ensures
