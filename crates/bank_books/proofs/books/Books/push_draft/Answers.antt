use Rattle.std.proofs.Common.{◌≡◌, ◌∙◌, rules, sym, ap, subst, ℕ, ◌+◌, List, [], ◌∷◌, ◌++◌, length, reverse, Ok}
use Rattle.std.proofs.lemmas.List.{length-reverse, reverse-append}
use Rattle.bank_books.specs.declared.entries.BankEntry.{BankEntry}
use Rattle.bank_books.specs.declared.entries.BankEntry.TheVariants.{Drafted}
use Rattle.bank_books.specs.declared.rows.DraftAt.{DraftAt}
use Rattle.bank_books.specs.declared.rows.OpenDraft.{OpenDraft}
use Rattle.bank_books.specs.Drafts.{drafts}
use Rattle.bank_books.specs.Kept.{Kept}
use Rattle.bank_books.specs.Lawful.{LawfulBank}
use Rattle.bank_books.specs.Numbering.{next_imad}
use Rattle.bank_books.specs.State.{BankList}
use Rattle.bank_books.proofs.Found.{as_many_drafts}
use Rattle.bank_books.proofs.Holding.{with_draft}
use Rattle.bank_books.proofs.books.Books.push_draft.Goals as goal

pub invariant_of-self-2 : goal.invariant_of-self-2
invariant_of-self-2 c =
    let o = c.self.inside.opening in
    let older = reverse c.self.inside.entries.items in
    let new : BankEntry = Drafted c.args.imad c.args.text in
    let follows : next_imad o older ≡ Ok c.args.imad = subst (λ (b : BankList). next_imad b.opening b.entries ≡ Ok c.args.imad) (sym c.self.view_is) c.requires in
    let more : c.push-3.new.self.items ≡ c.self.inside.entries.items ++ new ∷ [] = search rules in
    let is : reverse c.push-3.new.self.items ≡ new ∷ older = ap reverse more ∙ reverse-append c.self.inside.entries.items (new ∷ []) in
    let row : c.new-row.result ≡ record { imad = c.args.imad; entry = length older } =
    c.new-row.ensures ∙ ap (λ (n : ℕ). record { imad = c.args.imad; entry = n }) (ap length c.as_slice.ensures.value ∙ sym (length-reverse c.self.inside.entries.items)) in
    let waiting : c.new-open.result ≡ record { imad = c.args.imad; place = length (drafts older) } =
    c.new-open.ensures ∙ ap (λ (n : ℕ). record { imad = c.args.imad; place = n }) (ap length (c.as_slice-2.ensures.value ∙ c.self.invariant.2.drafted) ∙ as_many_drafts older) in
    let rows : c.push.new.self.items ≡ c.self.inside.drafts.items ++ c.new-row.result ∷ [] = search rules in
    let left : c.push-2.new.self.items ≡ c.self.inside.unanswered.items ++ c.new-open.result ∷ [] = search rules in
    let kept = with_draft o older c.self.inside.drafts.items c.self.inside.unanswered.items c.self.inside.inbox.items c.self.inside.numbered c.self.inside.wanted c.self.invariant.2
    c.args.imad c.args.text (follows, c.self.invariant.1) in (
      c.self.invariant.0,
      subst (LawfulBank o) (sym is) (follows, c.self.invariant.1),
      subst (λ (es : List BankEntry). Kept o es c.push.new.self.items c.push-2.new.self.items c.self.inside.inbox.items (c.self.inside.numbered + 1) c.self.inside.wanted) (sym is) (record {
        drafted = rows ∙ ap (λ (r : DraftAt). c.self.inside.drafts.items ++ r ∷ []) row ∙ kept.drafted;
        unanswered = left ∙ ap (λ (r : OpenDraft). c.self.inside.unanswered.items ++ r ∷ []) waiting ∙ kept.unanswered;
        received = kept.received;
        numbered = kept.numbered;
        wanted_next = kept.wanted_next;
      }),
    )
