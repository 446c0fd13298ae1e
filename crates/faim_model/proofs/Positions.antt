-- Each output has a position, and an output message names it.
use Rattle.std.proofs.Common.{◌≡◌, ⊎_elim, refl, sym, ap, subst, ℕ, ◌+◌, ◌<◌, ◌≤◌, ◌==◌, Bool, true, false, cond, List, [], ◌∷◌, ◌++◌, append-nil, length, Ok, arith}
use Rattle.std.specs.Str.{bytes_eq}
use Rattle.std.specs.List.{Contains}
use Rattle.std.proofs.lemmas.Bool.Decides.{nat_tests}
use Rattle.std.proofs.lemmas.List.Elements.{Contains-append_cases}
use Rattle.faim_base.specs.declared.judgement.Verdict.TheVariants.{Taken, Refused}
use Rattle.faim_base.specs.Ids.{stamp_of}
use Rattle.faim_base.specs.Numbers.{IsDay, IsMoment}
use Rattle.faim_base.specs.Ranges.{IsPosition}
use Rattle.faim_base.proofs.IdLemmas.{read_omad-omad_text}
use Rattle.host_ledger.specs.declared.config.Config.{Config}
use Rattle.host_ledger.specs.declared.entries.Entry.{Entry}
use Rattle.host_ledger.specs.declared.entries.Entry.TheVariants.{Posted, Roll}
use Rattle.host_ledger.specs.Accounts.{has_endpoint}
use Rattle.host_ledger.specs.Ranges.{IsEntry}
use Rattle.host_ledger.specs.Soundness.{IsConfig}
use Rattle.host_ledger.specs.Sums.{cycle}
use Rattle.faim_model.specs.Outputs.{Item, count_under, item_of, one_if, outputs, sent_in_cycle}
use Rattle.faim_model.specs.Lawful.{Lawful, last_moment, moment_of}
use Rattle.faim_model.specs.Deliveries.{output_message}
use Rattle.faim_model.specs.Readings.{omad_in}
use Rattle.faim_model.proofs.Accepted.{accepted, follows_in_time}
use Rattle.faim_model.proofs.Imads.{bytes_equal}
use Rattle.faim_model.proofs.InOrder.{count_more}
use Rattle.faim_model.proofs.Members.{first_in, first_or_later, later_in, none_in}
use Rattle.faim_model.proofs.Ranged.{each_ranged, entry_moment, item_endpoint, item_entry}
use Rattle.faim_model.proofs.Rising.{outputs_in_time}
use Rattle.faim_model.proofs.Stamps.{stamp_sound}

-- the cycle date is a day
cycle_day : (c : Config) (es : List Entry) → IsConfig c → Lawful c es → IsDay (cycle c es)
cycle_day c [] sound lawful = sound.date
cycle_day c (Roll moment date ∷ older) sound lawful = lawful.0.day
cycle_day c (Posted h body resent moment v ∷ older) sound lawful = cycle_day c older sound lawful.1

-- where all items are of earlier dates, none stands under a date
none_under : (date : ℕ) (items : List Item) → ((i : Item) → Contains items i → i.at.date < date) → count_under date items ≡ 0
none_under date [] earlier = refl
none_under date (i ∷ items) earlier =
    let before : i.at.date < date = earlier i (first_in i items) in
    grind (arith, nat_tests, none_under date items (λ j there. earlier j (later_in i j items there)))

one_if_is : (gets : Bool) (own i : Item) → Contains (one_if gets own) i → i ≡ own
one_if_is true own i there = ⊎_elim (λ here. here) (λ (later : Contains [] i). absurd (none_in i later)) (first_or_later own i [] there)
one_if_is false own i there = absurd (none_in i there)

count_one : (gets : Bool) (date : ℕ) (items : List Item) (i : Item) → count_under date (items ++ one_if gets i) ≤ count_under date items + cond gets 1 0
count_one false date items i = let same : count_under date (items ++ []) ≡ count_under date items = ap (count_under date) (append-nil items) in omega (arith, same)
count_one true date items i = by_date (i.at.date == date) (count_more date items i)
  where
    by_date : (b : Bool) → count_under date (items ++ i ∷ []) ≡ count_under date items + cond b 1 0 → count_under date (items ++ i ∷ []) ≤ count_under date items + 1
    by_date true more = omega (arith, more)
    by_date false more = omega (arith, more)

-- a cycle has a number left for its end
pub few_sent : (c : Config) (es : List Entry) (e : List ℕ) → Lawful c es → sent_in_cycle c es e ≤ 999_998
few_sent c [] e lawful = omega arith
few_sent c (Roll moment date ∷ older) e lawful =
    let later : cycle c older < date = lawful.0.later in
    let none : sent_in_cycle c (Roll moment date ∷ older) e ≡ 0 =
    none_under date (outputs c (Roll moment date ∷ older) e) (λ i there. ⊎_elim
    (λ (before : Contains (outputs c older e) i). let early : i.at.date ≤ cycle c older = outputs_in_time c older e i lawful.1 before in omega arith)
    (λ (own : Contains (item_of c older (outputs c older e) (Roll moment date) e) i).
    let is : i.at.date ≡ cycle c older = ap (λ (j : Item). j.at.date) (one_if_is (has_endpoint c.accounts e) _ i own) in omega arith)
    (Contains-append_cases (outputs c older e) (item_of c older (outputs c older e) (Roll moment date) e) i there)) in
    omega (arith, none)
few_sent c (Posted h body resent moment (Refused why) ∷ older) e lawful =
    let same : sent_in_cycle c (Posted h body resent moment (Refused why) ∷ older) e ≡ sent_in_cycle c older e =
    ap (count_under (cycle c older)) (append-nil (outputs c older e)) in
    omega (arith, same, few_sent c older e lawful.1)
few_sent c (Posted h body resent moment (Taken dest seq) ∷ older) e lawful =
    let a = accepted c older h body resent moment dest seq lawful in
    let item : Item = record { at = record { date = h.imad.date; seq = seq }; place = length older; entry = Posted h body resent moment (Taken dest seq) } in
    let more = count_one (bytes_eq dest e) (cycle c older) (outputs c older e) item in
    by_dest (bytes_eq dest e) refl a.number a.kept (few_sent c older e lawful.1) more
  where
    by_dest : (b : Bool) → bytes_eq dest e ≡ b → seq ≡ sent_in_cycle c older dest + 1 → seq ≤ 999_998 → sent_in_cycle c older e ≤ 999_998
        → sent_in_cycle c (Posted h body resent moment (Taken dest seq) ∷ older) e ≤ sent_in_cycle c older e + cond b 1 0
        → sent_in_cycle c (Posted h body resent moment (Taken dest seq) ∷ older) e ≤ 999_998
    by_dest true same number kept before more =
        let one : seq ≡ sent_in_cycle c older e + 1 = subst (λ (d : List ℕ). seq ≡ sent_in_cycle c older d + 1) (bytes_equal dest e same) number in
        omega arith
    by_dest false same number kept before more = omega arith

own_position : (c : Config) (older : List Entry) (x : Entry) (e : List ℕ) (i : Item) → IsConfig c → Lawful c (x ∷ older) → IsEntry x
    → Contains (item_of c older (outputs c older e) x e) i → IsPosition i.at
own_position c older (Posted h body resent moment (Taken dest seq)) e i sound lawful ranged there =
    subst (λ (j : Item). IsPosition j.at) (sym (one_if_is (bytes_eq dest e) _ i there)) (record { day = ranged.0.imad.day; number = ranged.2.1 })
own_position c older (Posted h body resent moment (Refused why)) e i sound lawful ranged there = absurd (none_in i there)
own_position c older (Roll moment date) e i sound lawful ranged there =
    let few : sent_in_cycle c older e ≤ 999_998 = few_sent c older e lawful.1 in
    subst (λ (j : Item). IsPosition j.at) (sym (one_if_is (has_endpoint c.accounts e) _ i there))
    (record { day = cycle_day c older sound lawful.1; number = (omega arith, omega (arith, few)) })

-- each item has a position
pub item_position : (c : Config) (es : List Entry) (e : List ℕ) (i : Item) → IsConfig c → Lawful c es → IsMoment (last_moment es)
    → Contains (outputs c es e) i → IsPosition i.at
item_position c [] e i sound lawful in_calendar there = absurd (none_in i there)
item_position c (x ∷ older) e i sound lawful in_calendar there =
    let before : last_moment older ≤ moment_of x = follows_in_time c older x lawful in
    ⊎_elim (λ (early : Contains (outputs c older e) i). item_position c older e i sound lawful.1 (omega (arith, before, in_calendar)) early)
    (λ (own : Contains (item_of c older (outputs c older e) x e) i).
    own_position c older x e i sound lawful (each_ranged c (x ∷ older) x sound lawful in_calendar (first_in x older)) own)
    (Contains-append_cases (outputs c older e) (item_of c older (outputs c older e) x e) i there)

-- the output that an item is names its position, its endpoint and its entry's moment
pub names_position : (c : Config) (es : List Entry) (e : List ℕ) (i : Item) (mark : ℕ) → IsConfig c → Lawful c es → IsMoment (last_moment es)
    → Contains (outputs c es e) i
    → omad_in (output_message c.env e i mark)
    ≡ Ok (record { date = i.at.date; dest = e; seq = i.at.seq; stamp = stamp_of (moment_of i.entry) })
names_position c es e i mark sound lawful in_calendar there =
    let position = item_position c es e i sound lawful in_calendar there in
    let ranged = each_ranged c es i.entry sound lawful in_calendar (item_entry c es e i there) in
    read_omad-omad_text (record { date = i.at.date; dest = e; seq = i.at.seq; stamp = stamp_of (moment_of i.entry) }) (record {
      day = position.day;
      receiver = item_endpoint c es e i sound lawful in_calendar there;
      number = position.number;
      moment = stamp_sound (moment_of i.entry) (entry_moment i.entry ranged);
    })
