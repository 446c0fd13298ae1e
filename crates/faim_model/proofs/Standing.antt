-- An output stands at the place of the entry that gives it.
use Rattle.std.proofs.Common.{◌≡◌, ⊎_elim, refl, sym, ◌∙◌, ap, ℕ, ◌<◌, Bool, true, false, List, [], ◌∷◌, length, Some, arith}
use Rattle.std.specs.Str.{bytes_eq}
use Rattle.std.specs.List.{Contains}
use Rattle.std.proofs.lemmas.List.Elements.{Contains-append_cases}
use Rattle.faim_base.specs.declared.judgement.Verdict.TheVariants.{Taken, Refused}
use Rattle.host_ledger.specs.declared.config.Config.{Config}
use Rattle.host_ledger.specs.declared.entries.Entry.{Entry}
use Rattle.host_ledger.specs.declared.entries.Entry.TheVariants.{Posted, Roll}
use Rattle.host_ledger.specs.Accounts.{has_endpoint}
use Rattle.faim_model.specs.Outputs.{Item, item_of, one_if, outputs}
use Rattle.faim_model.specs.Turns.{entry_at}
use Rattle.faim_model.proofs.Members.{first_or_later, none_in}
use Rattle.faim_model.proofs.Places.{at_newest, at_older}

-- an item whose entry stands at its place, which is one of the list
abbrev Stands : List Entry → Item → Type 0
Stands es i = (i.place < length es) × (entry_at es i.place ≡ Some i.entry)

only_item : (gets : Bool) (own i : Item) → Contains (one_if gets own) i → i ≡ own
only_item true own i there = ⊎_elim (λ here. here) (λ (later : Contains [] i). absurd (none_in i later)) (first_or_later own i [] there)
only_item false own i there = absurd (none_in i there)

newest_stands : (x : Entry) (older : List Entry) (own i : Item) → own.place ≡ length older → own.entry ≡ x → i ≡ own → Stands (x ∷ older) i
newest_stands x older own i place entry same =
    let at_end : i.place ≡ length older = ap (λ (j : Item). j.place) same ∙ place in
    let is_newest : i.entry ≡ x = ap (λ (j : Item). j.entry) same ∙ entry in
    (omega arith, ap (entry_at (x ∷ older)) at_end ∙ at_newest x older ∙ ap Some (sym is_newest))

own_stands : (c : Config) (x : Entry) (older : List Entry) (before : List Item) (e : List ℕ) (i : Item)
    → Contains (item_of c older before x e) i → Stands (x ∷ older) i
own_stands c (Posted h body resent moment (Taken dest seq)) older before e i there =
    newest_stands (Posted h body resent moment (Taken dest seq)) older _ i refl refl (only_item (bytes_eq dest e) _ i there)
own_stands c (Posted h body resent moment (Refused why)) older before e i there = absurd (none_in i there)
own_stands c (Roll moment date) older before e i there =
    newest_stands (Roll moment date) older _ i refl refl (only_item (has_endpoint c.accounts e) _ i there)

older_stands : (x : Entry) (older : List Entry) (i : Item) → Stands older i → Stands (x ∷ older) i
older_stands x older i stands = (omega (arith, stands.0), at_older x older i.place stands.0 ∙ stands.1)

all_stand : (c : Config) (es : List Entry) (e : List ℕ) (i : Item) → Contains (outputs c es e) i → Stands es i
all_stand c [] e i there = absurd (none_in i there)
all_stand c (x ∷ older) e i there =
    ⊎_elim (λ (before : Contains (outputs c older e) i). older_stands x older i (all_stand c older e i before))
    (λ (own : Contains (item_of c older (outputs c older e) x e) i). own_stands c x older (outputs c older e) e i own)
    (Contains-append_cases (outputs c older e) (item_of c older (outputs c older e) x e) i there)

pub stand_at_places : (c : Config) (es : List Entry) (e : List ℕ) (i : Item) → Contains (outputs c es e) i → entry_at es i.place ≡ Some i.entry
stand_at_places c es e i there = (all_stand c es e i there).1
