-- The item that the entry at a place gives is that of the entry, after the entries before it.
use Rattle.std.proofs.Common.{◌≡◌, ℕ, ◌<◌, ◌≤◌, ◌==◌, Bool, true, false, List, [], ◌∷◌, ◌++◌, length, Option, Some, None, option_map, ◌∙◌, ap, refl, arith, length-append}
use Rattle.std.specs.List.{find}
use Rattle.std.specs.Option.{option_or}
use Rattle.std.proofs.lemmas.Bool.Decides.{nat_tests}
use Rattle.std.proofs.lemmas.List.Folds.{find-append}
use Rattle.std.specs.Str.{bytes_eq}
use Rattle.faim_base.specs.declared.ids.OutPos.{OutPos}
use Rattle.faim_base.specs.declared.judgement.Verdict.TheVariants.{Taken, Refused}
use Rattle.host_ledger.specs.declared.config.Config.{Config}
use Rattle.host_ledger.specs.declared.entries.Entry.{Entry}
use Rattle.host_ledger.specs.declared.entries.Entry.TheVariants.{Posted, Roll}
use Rattle.host_ledger.specs.Accounts.{has_endpoint}
use Rattle.faim_model.specs.Outputs.{Item, item_of, one_if, outputs}
use Rattle.faim_model.specs.Items.{item_at, position_at}
use Rattle.faim_model.specs.Lawful.{Lawful}

-- the position of the first item
abbrev pub position_in : List Item → Option OutPos
position_in [] = None
position_in (i ∷ items) = Some i.at

abbrev stands_at : ℕ → Item → Bool
stands_at place i = i.place == place

one_missed : (gets : Bool) (i : Item) (place : ℕ) → i.place < place → find (stands_at place) (one_if gets i) ≡ None
one_missed false i place lt = refl
one_missed true i place lt = grind (arith, nat_tests)

one_met : (gets : Bool) (i : Item) (place : ℕ) → i.place ≡ place → option_map (λ (j : Item). j.at) (find (stands_at place) (one_if gets i)) ≡ position_in (one_if gets i)
one_met false i place same = refl
one_met true i place same = grind (arith, nat_tests)

-- an entry gives nothing at a later place
own_missed : (c : Config) (older : List Entry) (before : List Item) (x : Entry) (e : List ℕ) (place : ℕ) → length older < place
    → find (stands_at place) (item_of c older before x e) ≡ None
own_missed c older before (Posted h body resent moment (Taken dest seq)) e place lt = one_missed (bytes_eq dest e) _ place lt
own_missed c older before (Posted h body resent moment (Refused why)) e place lt = refl
own_missed c older before (Roll moment date) e place lt = one_missed (has_endpoint c.accounts e) _ place lt

-- it gives at its own place what it gives at all
own_met : (c : Config) (older : List Entry) (before : List Item) (x : Entry) (e : List ℕ)
    → option_map (λ (j : Item). j.at) (find (stands_at (length older)) (item_of c older before x e)) ≡ position_in (item_of c older before x e)
own_met c older before (Posted h body resent moment (Taken dest seq)) e = one_met (bytes_eq dest e) _ (length older) refl
own_met c older before (Posted h body resent moment (Refused why)) e = refl
own_met c older before (Roll moment date) e = one_met (has_endpoint c.accounts e) _ (length older) refl

-- nothing is given at a place that isn't there
pub none_past : (c : Config) (es : List Entry) (e : List ℕ) (place : ℕ) → length es ≤ place → item_at c es e place ≡ None
none_past c [] e place le = refl
none_past c (x ∷ older) e place le =
    find-append (stands_at place) (outputs c older e) (item_of c older (outputs c older e) x e)
    ∙ ap (λ (o : Option Item). option_or o (find (stands_at place) (item_of c older (outputs c older e) x e))) (none_past c older e place (omega (arith, le)))
    ∙ own_missed c older (outputs c older e) x e place (omega (arith, le))

-- the newest entry's own
newest_gives : (c : Config) (older : List Entry) (x : Entry) (e : List ℕ)
    → position_at c (x ∷ older) e (length older) ≡ position_in (item_of c older (outputs c older e) x e)
newest_gives c older x e =
    let own = find (stands_at (length older)) (item_of c older (outputs c older e) x e) in
    ap (λ (o : Option Item). option_map (λ (j : Item). j.at) o)
    (find-append (stands_at (length older)) (outputs c older e) (item_of c older (outputs c older e) x e)
    ∙ ap (λ (o : Option Item). option_or o own) (none_past c older e (length older) (omega arith)))
    ∙ own_met c older (outputs c older e) x e

or_none : (o : Option Item) → option_or o None ≡ o
or_none None = refl
or_none (Some i) = refl

-- a newer entry gives nothing at an earlier place
one_missed_before : (gets : Bool) (i : Item) (place : ℕ) → place < i.place → find (stands_at place) (one_if gets i) ≡ None
one_missed_before false i place lt = refl
one_missed_before true i place lt = grind (arith, nat_tests)

own_missed_before : (c : Config) (older : List Entry) (before : List Item) (x : Entry) (e : List ℕ) (place : ℕ) → place < length older
    → find (stands_at place) (item_of c older before x e) ≡ None
own_missed_before c older before (Posted h body resent moment (Taken dest seq)) e place lt = one_missed_before (bytes_eq dest e) _ place lt
own_missed_before c older before (Posted h body resent moment (Refused why)) e place lt = refl
own_missed_before c older before (Roll moment date) e place lt = one_missed_before (has_endpoint c.accounts e) _ place lt

one_newer : (c : Config) (older : List Entry) (x : Entry) (e : List ℕ) (place : ℕ) → place < length older → item_at c (x ∷ older) e place ≡ item_at c older e place
one_newer c older x e place lt =
    find-append (stands_at place) (outputs c older e) (item_of c older (outputs c older e) x e)
    ∙ ap (λ (o : Option Item). option_or (item_at c older e place) o) (own_missed_before c older (outputs c older e) x e place lt)
    ∙ or_none (item_at c older e place)

-- the entry between newer and older ones
pub given_between : (c : Config) (newer : List Entry) (x : Entry) (older : List Entry) (e : List ℕ)
    → position_at c (newer ++ x ∷ older) e (length older) ≡ position_in (item_of c older (outputs c older e) x e)
given_between c [] x older e = newest_gives c older x e
given_between c (y ∷ newer) x older e =
    let later : length older < length (newer ++ x ∷ older) = omega (arith, length-append newer (x ∷ older)) in
    ap (λ (o : Option Item). option_map (λ (j : Item). j.at) o) (one_newer c (newer ++ x ∷ older) y e (length older) later)
    ∙ given_between c newer x older e

pub lawful_before : (c : Config) (newer : List Entry) (x : Entry) (older : List Entry) → Lawful c (newer ++ x ∷ older) → Lawful c older
lawful_before c [] x older lawful = lawful.1
lawful_before c (y ∷ newer) x older lawful = lawful_before c newer x older lawful.1
