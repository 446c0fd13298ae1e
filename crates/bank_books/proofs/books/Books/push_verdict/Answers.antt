use Rattle.std.proofs.Common.{◌≡◌, ◌∙◌, rules, sym, ap, subst, List, [], ◌∷◌, ◌++◌, reverse}
use Rattle.std.proofs.lemmas.List.{reverse-append}
use Rattle.bank_books.specs.declared.entries.BankEntry.{BankEntry}
use Rattle.bank_books.specs.declared.entries.BankEntry.TheVariants.{Answered}
use Rattle.bank_books.specs.Kept.{Kept}
use Rattle.bank_books.specs.Lawful.{BankFollows, LawfulBank}
use Rattle.bank_books.specs.State.{BankList}
use Rattle.bank_books.proofs.Holding.{with_verdict}
use Rattle.bank_books.proofs.books.Books.push_verdict.Goals as goal

pub invariant_of-self-2 : goal.invariant_of-self-2
invariant_of-self-2 c =
    let o = c.self.inside.opening in
    let older = reverse c.self.inside.entries.items in
    let new : BankEntry = Answered c.args.imad c.args.verdict in
    let follows : BankFollows o older new = subst (λ (b : BankList). BankFollows b.opening b.entries new) (sym c.self.view_is) c.requires in
    let more : c.push.new.self.items ≡ c.self.inside.entries.items ++ new ∷ [] = search rules in
    let is : reverse c.push.new.self.items ≡ new ∷ older = ap reverse more ∙ reverse-append c.self.inside.entries.items (new ∷ []) in
    let kept = with_verdict o older c.self.inside.drafts.items c.self.inside.unanswered.items c.self.inside.inbox.items c.self.inside.numbered c.self.inside.wanted c.self.invariant.2
    c.args.imad c.args.verdict c.take_out.new.rows.items c.take_out.ensures in (
      c.self.invariant.0,
      subst (LawfulBank o) (sym is) (follows, c.self.invariant.1),
      subst (λ (es : List BankEntry). Kept o es c.self.inside.drafts.items c.take_out.new.rows.items c.self.inside.inbox.items c.self.inside.numbered c.self.inside.wanted) (sym is) kept,
    )
