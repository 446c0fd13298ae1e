use Rattle.std.proofs.Common.{◌≡◌, ◌∙◌, rules, sym, ap, subst, ℕ, List, [], ◌∷◌, ◌++◌, length, reverse}
use Rattle.std.proofs.lemmas.List.{length-reverse, reverse-append}
use Rattle.bank_books.specs.declared.entries.BankEntry.{BankEntry}
use Rattle.bank_books.specs.declared.entries.BankEntry.TheVariants.{Received}
use Rattle.bank_books.specs.Kept.{Kept}
use Rattle.bank_books.specs.Lawful.{LawfulBank, ReceivedFollows}
use Rattle.bank_books.specs.State.{BankList}
use Rattle.bank_books.proofs.Holding.{with_output}
use Rattle.bank_books.proofs.books.Books.push_output.Goals as goal

pub invariant_of-self-2 : goal.invariant_of-self-2
invariant_of-self-2 c =
    let o = c.self.inside.opening in
    let older = reverse c.self.inside.entries.items in
    let new : BankEntry = Received c.args.at c.args.text c.args.next in
    let follows : ReceivedFollows o older c.args.at c.args.next = subst (λ (b : BankList). ReceivedFollows b.opening b.entries c.args.at c.args.next) (sym c.self.view_is) c.requires in
    let more : c.push-2.new.self.items ≡ c.self.inside.entries.items ++ new ∷ [] = search rules in
    let is : reverse c.push-2.new.self.items ≡ new ∷ older = ap reverse more ∙ reverse-append c.self.inside.entries.items (new ∷ []) in
    let entry : length c.as_slice-entry.result.now ≡ length older = ap length c.as_slice-entry.ensures.value ∙ sym (length-reverse c.self.inside.entries.items) in
    let places : c.push.new.self.items ≡ c.self.inside.inbox.items ++ length c.as_slice-entry.result.now ∷ [] = search rules in
    let kept = with_output o older c.self.inside.drafts.items c.self.inside.unanswered.items c.self.inside.inbox.items c.self.inside.numbered c.self.inside.wanted c.self.invariant.2
    c.args.at c.args.text c.args.next (follows, c.self.invariant.1) in (
      c.self.invariant.0,
      subst (LawfulBank o) (sym is) (follows, c.self.invariant.1),
      subst (λ (es : List BankEntry). Kept o es c.self.inside.drafts.items c.self.inside.unanswered.items c.push.new.self.items c.count_after-self-inside.result c.right_after-self-inside.result) (sym is) (record {
        drafted = kept.drafted;
        unanswered = kept.unanswered;
        received = places ∙ ap (λ (n : ℕ). c.self.inside.inbox.items ++ n ∷ []) entry ∙ kept.received;
        numbered = c.count_after-self-inside.ensures ∙ kept.numbered;
        wanted_next = c.right_after-self-inside.ensures ∙ kept.wanted_next;
      }),
    )
