-- Each entry of a lawful list holds what an entry may hold, and each item goes to an endpoint.
use Rattle.std.proofs.Common.{◌≡◌, ⊎_elim, refl, sym, subst, ℕ, ◌≤◌, ◌||◌, Bool, true, false, List, [], ◌∷◌, arith}
use Rattle.std.specs.Str.{bytes_eq}
use Rattle.std.specs.List.{AllByRecursion, Contains}
use Rattle.std.proofs.lemmas.List.Elements.{Contains-append_cases}
use Rattle.faim_base.specs.declared.judgement.Verdict.TheVariants.{Taken, Refused}
use Rattle.faim_base.specs.declared.ids.OutPos.{OutPos}
use Rattle.faim_base.specs.Numbers.{IsMoment}
use Rattle.faim_base.specs.Ranges.{IsEndpoint}
use Rattle.host_ledger.specs.declared.config.Account.{Account}
use Rattle.host_ledger.specs.declared.config.Config.{Config}
use Rattle.host_ledger.specs.declared.entries.Entry.{Entry}
use Rattle.host_ledger.specs.declared.entries.Entry.TheVariants.{Posted, Roll}
use Rattle.host_ledger.specs.Accounts.{has_endpoint}
use Rattle.host_ledger.specs.Ranges.{IsEntry}
use Rattle.host_ledger.specs.Soundness.{IsAccount, IsConfig}
use Rattle.faim_model.specs.Outputs.{Item, item_of, one_if, outputs}
use Rattle.faim_model.specs.Lawful.{Lawful, last_moment, moment_of}
use Rattle.faim_model.proofs.Accepted.{follows_in_time}
use Rattle.faim_model.proofs.Imads.{bytes_equal}
use Rattle.faim_model.proofs.Kept.{is_member}
use Rattle.faim_model.proofs.Members.{first_or_later, none_in}
use Rattle.faim_model.proofs.Spelled.{follows_spelled}
use Rattle.faim_model.proofs.Standing.{stand_at_places}

-- where the newest entry is in the calendar, all are
pub each_ranged : (c : Config) (es : List Entry) (x : Entry) → IsConfig c → Lawful c es → IsMoment (last_moment es) → Contains es x → IsEntry x
each_ranged c [] x sound lawful in_calendar there = absurd (none_in x there)
each_ranged c (y ∷ older) x sound lawful in_calendar there =
    let before : last_moment older ≤ moment_of y = follows_in_time c older y lawful in
    ⊎_elim (λ (here : x ≡ y). subst IsEntry (sym here) (follows_spelled c older y sound lawful.0 in_calendar))
    (λ (later : Contains older x). each_ranged c older x sound lawful.1 (omega (arith, before, in_calendar)) later) (first_or_later y x older there)

pub entry_moment : (x : Entry) → IsEntry x → IsMoment (moment_of x)
entry_moment (Posted h body resent moment v) ranged = ranged.1
entry_moment (Roll moment date) ranged = ranged.0

-- what gives an endpoint an item at a position
abbrev pub Gives : Config → List ℕ → OutPos → Entry → Type 0
Gives c e at (Posted h body resent moment (Taken dest seq)) = (dest ≡ e) × (record { date = h.imad.date; seq = seq } ≡ at)
Gives c e at (Posted h body resent moment (Refused why)) = ⊥
Gives c e at (Roll moment date) = has_endpoint c.accounts e ≡ true

only_where : (gets : Bool) (own i : Item) → Contains (one_if gets own) i → (gets ≡ true) × (i ≡ own)
only_where true own i there = (refl, ⊎_elim (λ here. here) (λ (later : Contains [] i). absurd (none_in i later)) (first_or_later own i [] there))
only_where false own i there = absurd (none_in i there)

own_gives : (c : Config) (older : List Entry) (before : List Item) (x : Entry) (e : List ℕ) (i : Item)
    → Contains (item_of c older before x e) i → Gives c e i.at i.entry
own_gives c older before (Posted h body resent moment (Taken dest seq)) e i there =
    let own = only_where (bytes_eq dest e) _ i there in
    subst (λ (j : Item). Gives c e j.at j.entry) (sym own.1) (bytes_equal dest e own.0, refl)
own_gives c older before (Posted h body resent moment (Refused why)) e i there = absurd (none_in i there)
own_gives c older before (Roll moment date) e i there =
    let own = only_where (has_endpoint c.accounts e) _ i there in
    subst (λ (j : Item). Gives c e j.at j.entry) (sym own.1) own.0

pub each_gives : (c : Config) (es : List Entry) (e : List ℕ) (i : Item) → Contains (outputs c es e) i → Gives c e i.at i.entry
each_gives c [] e i there = absurd (none_in i there)
each_gives c (x ∷ older) e i there =
    ⊎_elim (λ (before : Contains (outputs c older e) i). each_gives c older e i before)
    (λ (own : Contains (item_of c older (outputs c older e) x e) i). own_gives c older (outputs c older e) x e i own)
    (Contains-append_cases (outputs c older e) (item_of c older (outputs c older e) x e) i there)

-- an endpoint of accounts is one
account_endpoint : (accounts : List Account) (e : List ℕ) → AllByRecursion IsAccount accounts → has_endpoint accounts e ≡ true → IsEndpoint e
account_endpoint [] e each served = absurd (let wrong : false ≡ true = served in cc)
account_endpoint (a ∷ rest) e each served = here (bytes_eq a.endpoint e) refl (account_endpoint rest e each.1) served
  where
    here : (b : Bool) → bytes_eq a.endpoint e ≡ b → (has_endpoint rest e ≡ true → IsEndpoint e) → b || has_endpoint rest e ≡ true → IsEndpoint e
    here true same later served = subst IsEndpoint (bytes_equal a.endpoint e same) each.0.endpoint
    here false same later served = later served

giver_serves : (c : Config) (e : List ℕ) (at : OutPos) (x : Entry) → IsConfig c → IsEntry x → Gives c e at x → IsEndpoint e
giver_serves c e at (Posted h body resent moment (Taken dest seq)) sound ranged gives = subst IsEndpoint gives.0 ranged.2.0
giver_serves c e at (Posted h body resent moment (Refused why)) sound ranged gives = absurd gives
giver_serves c e at (Roll moment date) sound ranged gives = account_endpoint c.accounts e sound.accounts.each gives

-- an item's entry is one of the list, and its endpoint is one
pub item_entry : (c : Config) (es : List Entry) (e : List ℕ) (i : Item) → Contains (outputs c es e) i → Contains es i.entry
item_entry c es e i there = is_member es i.place i.entry (stand_at_places c es e i there)

pub item_endpoint : (c : Config) (es : List Entry) (e : List ℕ) (i : Item) → IsConfig c → Lawful c es → IsMoment (last_moment es)
    → Contains (outputs c es e) i → IsEndpoint e
item_endpoint c es e i sound lawful in_calendar there =
    giver_serves c e i.at i.entry sound (each_ranged c es i.entry sound lawful in_calendar (item_entry c es e i there)) (each_gives c es e i there)
