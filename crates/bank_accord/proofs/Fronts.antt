-- Where the texts of an inbox are the first of a host's, its outputs are the host's first items.
use Rattle.std.proofs.Common.{◌≡◌, ⊎_elim, refl, sym, ◌∙◌, ap, subst, ℕ, List, [], ◌∷◌, ◌++◌, map, Some}
use Rattle.std.specs.List.{Contains}
use Rattle.host_ledger.specs.declared.config.Config.{Config}
use Rattle.bank_books.specs.declared.entries.BankEntry.{BankEntry}
use Rattle.bank_books.specs.declared.entries.BankEntry.TheVariants.{Drafted, Answered, Received}
use Rattle.bank_books.specs.declared.entries.BankOpening.{BankOpening}
use Rattle.bank_books.specs.Inbox.{InboxItem, inbox}
use Rattle.faim_model.specs.Outputs.{Item}
use Rattle.faim_model.proofs.Members.{first_in, later_in, none_in}
use Rattle.bank_books.proofs.Members.{before_or_last}
use Rattle.bank_turns.specs.KeptTexts.{KeptBank}
use Rattle.bank_turns.specs.OutputTexts.{Given, output_given}
use Rattle.bank_accord.specs.Accord.{output_text}
use Rattle.bank_accord.proofs.HostRows.{as_kept}
use Rattle.bank_accord.proofs.ItemsGiven.{ShowsItem}

-- an output of the inbox as one that was given
abbrev pub as_given : InboxItem → Given
as_given i = record { at = i.at; text = i.text; next = i.next }

-- each output of an inbox is given again by its text
pub inbox_given : (o : BankOpening) (kept : List BankEntry) (i : InboxItem) → KeptBank o kept → Contains (inbox kept) i
    → output_given o i.text ≡ Some (as_given i)
inbox_given o [] i keeps there = absurd (none_in i there)
inbox_given o (Drafted imad text ∷ older) i keeps there = inbox_given o older i keeps.1 there
inbox_given o (Answered imad verdict ∷ older) i keeps there = inbox_given o older i keeps.1 there
inbox_given o (Received at text next ∷ older) i keeps there =
    let new : InboxItem = record { at = at; text = text; next = next } in
    ⊎_elim (λ (old : Contains (inbox older) i). inbox_given o older i keeps.1 old)
    (λ (last : i ≡ new). subst (λ (j : InboxItem). output_given o j.text ≡ Some (as_given j)) (sym last) keeps.0.keeps)
    (before_or_last new i (inbox older) there)

-- items in two parts: the first are these outputs of an inbox, and the others have these texts
pub record Parts (c : Config) (e : List ℕ) (items : List Item) (received : List InboxItem) (later : List (List ℕ)) : Type 0 where
  pub front : List Item
  pub back : List Item
  pub whole : items ≡ front ++ back
  pub same : map (as_kept c e) front ≡ received
  pub rest : map (output_text c e) back ≡ later

pub cut_at : (c : Config) (e : List ℕ) (o : BankOpening) (items : List Item) (received : List InboxItem) (later : List (List ℕ))
    → ((i : Item) (g : Given) → Contains items i → output_given o (output_text c e i) ≡ Some g → ShowsItem c e i g)
    → ((i : InboxItem) → Contains received i → output_given o i.text ≡ Some (as_given i))
    → map (output_text c e) items ≡ map (λ (i : InboxItem). i.text) received ++ later → Parts c e items received later
cut_at c e o items [] later shows gives texts = record { front = []; back = items; whole = refl; same = refl; rest = texts }
cut_at c e o [] (j ∷ received) later shows gives texts = absurd cc
cut_at c e o (i ∷ items) (j ∷ received) later shows gives texts =
    let text : output_text c e i ≡ j.text = cc in
    let others : map (output_text c e) items ≡ map (λ (k : InboxItem). k.text) received ++ later = cc in
    let s : ShowsItem c e i (as_given j) = shows i (as_given j) (first_in i items) (ap (output_given o) text ∙ gives j (first_in j received)) in
    let own : as_kept c e i ≡ j = (λ k. record { at = sym s.at k; text = text k; next = sym s.next k }) in
    let more = cut_at c e o items received later (λ k g there. shows k g (later_in i k items there)) (λ k there. gives k (later_in j k received there)) others in
    record {
      front = i ∷ more.front;
      back = more.back;
      whole = (λ k. i ∷ more.whole k);
      same = (λ k. own k ∷ more.same k);
      rest = more.rest;
    }
