-- What a bank takes at the wanted position is the host's next item after those of the inbox.
use Rattle.std.proofs.Common.{◌≡◌, sym, ◌∙◌, ap, subst, ℕ, true, false, List, [], ◌∷◌, ◌++◌, append-nil, append_assoc, map, Option, arith}
use Rattle.std.specs.List.{Contains}
use Rattle.std.proofs.lemmas.Bool.Decides.{nat_tests}
use Rattle.std.proofs.lemmas.List.{map-append}
use Rattle.std.proofs.lemmas.List.Elements.{Contains-append_right}
use Rattle.faim_base.specs.declared.ids.OutPos.{OutPos}
use Rattle.host_ledger.specs.declared.config.Config.{Config}
use Rattle.host_ledger.specs.declared.entries.Entry.{Entry}
use Rattle.bank_books.specs.declared.entries.BankEntry.{BankEntry}
use Rattle.bank_books.specs.declared.entries.BankEntry.TheVariants.{Received}
use Rattle.bank_books.specs.declared.entries.BankOpening.{BankOpening}
use Rattle.bank_books.specs.Inbox.{InboxItem, inbox, is_before, wanted}
use Rattle.bank_books.specs.Lawful.{StandInARow}
use Rattle.bank_books.proofs.InARow.{all_before}
use Rattle.faim_model.specs.Outputs.{Item, outputs}
use Rattle.faim_model.proofs.Drawn.{into_map}
use Rattle.faim_model.proofs.Members.{first_in}
use Rattle.faim_model.proofs.Rising.{outputs_go_on}
use Rattle.faim_model.proofs.SamePlace.{one_at}
use Rattle.bank_turns.specs.KeptTexts.{KeptBank}
use Rattle.bank_turns.proofs.KeptSteps.{kept_lawful}
use Rattle.bank_accord.specs.Accord.{InboxStands, IsHost, output_text}
use Rattle.bank_accord.proofs.CoveredOutputs.{text_given}
use Rattle.bank_accord.proofs.Fronts.{cut_at, inbox_given}
use Rattle.bank_accord.proofs.HostRanges.{each_given}
use Rattle.bank_accord.proofs.HostRows.{as_kept, in_a_row}
use Rattle.bank_accord.proofs.ItemsGiven.{ShowsItem}
use Rattle.bank_accord.proofs.Rows.{after_all, first_of, stands_after, wanted_last}

not_before_itself : (p : OutPos) → is_before p p ≡ false
not_before_itself p = grind (arith, nat_tests)

module _ (c : Config) (es : List Entry) (o : BankOpening) (kept : List BankEntry) (host : IsHost c es o) (keeps : KeptBank o kept) where
  -- the host's items to the bank
  abbrev items : List Item
  items = outputs c es o.endpoint

  -- an item at the wanted position isn't one of the inbox
  none_again : (i : Item) → i.at ≡ wanted o kept → Contains (inbox kept) (as_kept c o.endpoint i) → ⊥
  none_again i at there =
      let early : is_before i.at (wanted o kept) ≡ true = all_before o kept (as_kept c o.endpoint i) (kept_lawful o kept keeps) there in
      let both : true ≡ false = sym early ∙ ap (λ (p : OutPos). is_before p (wanted o kept)) at ∙ not_before_itself (wanted o kept) in absurd cc

  -- the item after those of the inbox stands at the wanted position
  next_stands : (front : List Item) (j : Item) (back : List Item) → items ≡ front ++ j ∷ back → map (as_kept c o.endpoint) front ≡ inbox kept
      → Contains items j → j.at ≡ wanted o kept
  next_stands front j back whole same there =
      let row = (in_a_row c o.endpoint es host.lawful (each_given c es o.endpoint j host.sound host.lawful there).served).row in
      let both : map (as_kept c o.endpoint) items ≡ map (as_kept c o.endpoint) front ++ as_kept c o.endpoint j ∷ map (as_kept c o.endpoint) back =
      ap (map (as_kept c o.endpoint)) whole ∙ map-append (as_kept c o.endpoint) front (j ∷ back) in
      stands_after (first_of c.date) (map (as_kept c o.endpoint) front) (as_kept c o.endpoint j) (map (as_kept c o.endpoint) back)
      (subst (StandInARow (first_of c.date)) both row)
      ∙ ap (after_all (first_of c.date)) same ∙ ap (λ (date : ℕ). after_all (first_of date) (inbox kept)) host.date
      ∙ sym (wanted_last o kept (kept_lawful o kept keeps))

  -- with that item's text the inbox still stands
  with_next : (at : OutPos) (text : List ℕ) (next : Option ℕ) (i : Item) (later : List (List ℕ)) → at ≡ wanted o kept → Contains items i
      → ShowsItem c o.endpoint i (record { at = at; text = text; next = next }) → (front back : List Item) → items ≡ front ++ back
      → map (as_kept c o.endpoint) front ≡ inbox kept → map (output_text c o.endpoint) back ≡ later
      → map (output_text c o.endpoint) items ≡ map (λ (k : InboxItem). k.text) (inbox kept) ++ later
      → InboxStands c es o.endpoint (Received at text next ∷ kept)
  with_next at text next i later wants there shows front [] whole same rest texts =
      let inside : Contains front i = subst (λ (l : List Item). Contains l i) (whole ∙ append-nil front) there in
      absurd (none_again i (sym shows.at ∙ wants)
      (subst (λ (l : List InboxItem). Contains l (as_kept c o.endpoint i)) same (into_map (as_kept c o.endpoint) front i inside)))
  with_next at text next i later wants there shows front (j ∷ back) whole same rest texts =
      let new : InboxItem = record { at = at; text = text; next = next } in
      let stands : Contains items j = subst (λ (l : List Item). Contains l j) (sym whole) (Contains-append_right front (j ∷ back) j (first_in j back)) in
      let place : i.at ≡ j.at = sym shows.at ∙ wants ∙ sym (next_stands front j back whole same stands) in
      let one : i ≡ j = one_at items i j (outputs_go_on c es o.endpoint host.lawful).rises there stands place in
      let own : output_text c o.endpoint j ≡ text = ap (output_text c o.endpoint) (sym one) ∙ sym shows.text in
      let more : List (List ℕ) = map (output_text c o.endpoint) back in (
        more,
        texts ∙ ap (λ (l : List (List ℕ)). map (λ (k : InboxItem). k.text) (inbox kept) ++ l) (sym rest ∙ ap (λ (t : List ℕ). t ∷ more) own)
            ∙ sym (append_assoc (map (λ (k : InboxItem). k.text) (inbox kept)) (text ∷ []) more)
            ∙ ap (λ (l : List (List ℕ)). l ++ more) (sym (map-append (λ (k : InboxItem). k.text) (inbox kept) (new ∷ []))),
      )

  pub next_received : (at : OutPos) (text : List ℕ) (next : Option ℕ) (i : Item) → at ≡ wanted o kept → Contains items i
      → ShowsItem c o.endpoint i (record { at = at; text = text; next = next }) → InboxStands c es o.endpoint kept
      → InboxStands c es o.endpoint (Received at text next ∷ kept)
  next_received at text next i wants there shows stands =
      let cut = cut_at c o.endpoint o items (inbox kept) stands.0 (λ k g inside. text_given c es host.sound host.lawful o o.endpoint k g inside)
      (λ k inside. inbox_given o kept k keeps inside) stands.1 in
      with_next at text next i stands.0 wants there shows cut.front cut.back cut.whole cut.same cut.rest stands.1
