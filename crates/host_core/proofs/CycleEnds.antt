-- The cycle dates beside a list, and the positions of what its entries give, told without a walk.
use Rattle.std.proofs.Common.{◌≡◌, ◌≢◌, refl, sym, ◌∙◌, ap, subst, ℕ, ◌+◌, ◌<◌, ◌≤◌, ◌==◌, Bool, true, false, List, [], ◌∷◌, ◌++◌, append-nil, length, length-append, get_or, reverse, if◌then◌else◌, Option, Some, None, option_map, arith}
use Rattle.std.proofs.lemmas.Bool.{eq-eqb, eqb-false, eqb-true, ne_eqb}
use Rattle.std.proofs.lemmas.Bool.Decides.{nat_tests}
use Rattle.std.proofs.lemmas.List.{get_or_append_left, length-reverse}
use Rattle.std.proofs.Math.Seq.{get_or-append_seam}
use Rattle.std.specs.Str.{bytes_eq}
use Rattle.faim_base.specs.declared.judgement.Head.{Head}
use Rattle.faim_base.specs.declared.judgement.Reject.{Reject}
use Rattle.faim_base.specs.declared.judgement.Verdict.{Verdict}
use Rattle.faim_base.specs.declared.judgement.Verdict.TheVariants.{Taken, Refused}
use Rattle.host_ledger.specs.declared.config.Config.{Config}
use Rattle.host_ledger.specs.declared.entries.Entry.{Entry}
use Rattle.host_ledger.specs.declared.entries.Entry.TheVariants.{Posted, Roll}
use Rattle.host_ledger.specs.Accounts.{has_endpoint}
use Rattle.host_ledger.specs.Sums.{cycle}
use Rattle.faim_model.specs.Outputs.{Item, count_under, one_if, outputs}
use Rattle.faim_model.specs.Items.{position_at}
use Rattle.faim_model.specs.Lawful.{Lawful}
use Rattle.faim_model.specs.Turns.{entry_at}
use Rattle.faim_model.proofs.InOrder.{count_more}
use Rattle.faim_model.proofs.Judgements.{posted_taken}
use Rattle.faim_model.proofs.Positions.{few_sent}
use Rattle.host_core.specs.Kept.{cycles_of, position_by}
use Rattle.host_core.proofs.ItemPlaces.{position_in, given_between, lawful_before, none_past}

-- there is a date before each entry and one after the newest
pub dates_counted : (c : Config) (es : List Entry) → length (cycles_of c es) ≡ length es + 1
dates_counted c [] = omega arith
dates_counted c (x ∷ older) = omega (arith, length-append (cycles_of c older) (cycle c (x ∷ older) ∷ []), dates_counted c older)

-- the last date is that of the present cycle
pub last_date : (c : Config) (es : List Entry) (d : ℕ) → get_or (cycles_of c es) (length es) d ≡ cycle c es
last_date c [] d = refl
last_date c (x ∷ older) d =
    let long : length (x ∷ older) ≡ length (cycles_of c older) = omega (arith, dates_counted c older) in
    ap (λ (n : ℕ). get_or (cycles_of c (x ∷ older)) n d) long ∙ get_or-append_seam (cycles_of c older) (cycle c (x ∷ older)) [] d

-- an entry more leaves the dates before it
date_kept : (c : Config) (x : Entry) (older : List Entry) (place d : ℕ) → place ≤ length older → get_or (cycles_of c (x ∷ older)) place d ≡ get_or (cycles_of c older) place d
date_kept c x older place d le =
    get_or_append_left (cycles_of c older) (cycle c (x ∷ older) ∷ []) d place (omega (arith, le, dates_counted c older))

-- the date at an entry's place is the cycle date after those before it
pub date_at : (c : Config) (newer : List Entry) (x : Entry) (older : List Entry) (d : ℕ) → get_or (cycles_of c (newer ++ x ∷ older)) (length older) d ≡ cycle c older
date_at c [] x older d = date_kept c x older (length older) d (omega arith) ∙ last_date c older d
date_at c (y ∷ newer) x older d =
    date_kept c y (newer ++ x ∷ older) (length older) d (omega (arith, length-append newer (x ∷ older))) ∙ date_at c newer x older d

-- a list about the entry at a place: those after it, and those before it
record IsAround (es : List Entry) (place : ℕ) (x : Entry) : Type 0 where
  newer : List Entry
  older : List Entry
  parts : es ≡ newer ++ x ∷ older
  before : length older ≡ place

around_by : (y : Entry) (es : List Entry) (place : ℕ) (x : Entry) (here : Bool) → (length es == place) ≡ here
    → (if here then Some y else entry_at es place) ≡ Some x → (entry_at es place ≡ Some x → IsAround es place x) → IsAround (y ∷ es) place x
around_by y es place x true test at rest =
    let same : y ≡ x = cc in
    record { newer = []; older = es; parts = ap (λ (z : Entry). z ∷ es) same; before = eqb-true (length es) place test }
around_by y es place x false test at rest =
    let r = rest at in
    record { newer = y ∷ r.newer; older = r.older; parts = ap (λ (l : List Entry). y ∷ l) r.parts; before = r.before }

around : (es : List Entry) (place : ℕ) (x : Entry) → entry_at es place ≡ Some x → IsAround es place x
around [] place x at = absurd cc
around (y ∷ es) place x at = around_by y es place x (length es == place) refl at (around es place x)

-- what holds of each list about an entry holds where the entry stands
at_parts : (P : List Entry → ℕ → Type 0) (es : List Entry) (place : ℕ) (x : Entry) → entry_at es place ≡ Some x
    → ((newer older : List Entry) → P (newer ++ x ∷ older) (length older)) → P es place
at_parts P es place x at each =
    let r = around es place x at in
    subst (λ (n : ℕ). P es n) r.before (subst (λ (l : List Entry). P l (length r.older)) (sym r.parts) (each r.newer r.older))

-- a Roll is to a later date than the cycle that it ends, and no later cycle is of an earlier date
roll_later : (c : Config) (newer older : List Entry) (moment date : ℕ) → Lawful c (newer ++ Roll moment date ∷ older) → cycle c older < date
roll_later c [] older moment date lawful = lawful.0.later
roll_later c (y ∷ newer) older moment date lawful = roll_later c newer older moment date lawful.1

roll_lasts : (c : Config) (newer older : List Entry) (moment date : ℕ) → Lawful c (newer ++ Roll moment date ∷ older)
    → date ≤ cycle c (newer ++ Roll moment date ∷ older)
roll_lasts c [] older moment date lawful = omega arith
roll_lasts c (Posted h body resent at v ∷ newer) older moment date lawful = roll_lasts c newer older moment date lawful.1
roll_lasts c (Roll at next ∷ newer) older moment date lawful =
    let later : cycle c (newer ++ Roll moment date ∷ older) < next = lawful.0.later in
    omega (arith, roll_lasts c newer older moment date lawful.1)

-- an item of a later date, or none, leaves the number under a date
count_kept : (gets : Bool) (date : ℕ) (items : List Item) (i : Item) → date < i.at.date → count_under date (items ++ one_if gets i) ≡ count_under date items
count_kept false date items i later = ap (count_under date) (append-nil items)
count_kept true date items i later =
    let apart : (i.at.date == date) ≡ false = ne_eqb i.at.date date (λ same. absurd (omega arith)) in
    count_more date items i ∙ ap (λ (b : Bool). count_under date items + (if b then 1 else 0)) apart ∙ omega arith

-- so does an entry that comes in a later cycle
count_stays : (c : Config) (x : Entry) (es : List Entry) (e : List ℕ) (date : ℕ) → Lawful c (x ∷ es) → date < cycle c es
    → count_under date (outputs c (x ∷ es) e) ≡ count_under date (outputs c es e)
count_stays c (Posted h body resent moment (Refused why)) es e date lawful later = ap (count_under date) (append-nil (outputs c es e))
count_stays c (Posted h body resent moment (Taken dest seq)) es e date lawful later =
    let taken = posted_taken c es h body resent moment dest seq lawful.0 in
    let own : h.imad.date ≡ cycle c es = eqb-true h.imad.date (cycle c es) taken.in_cycle in
    count_kept (bytes_eq dest e) date (outputs c es e) _ (omega (arith, own))
count_stays c (Roll moment next) es e date lawful later = count_kept (has_endpoint c.accounts e) date (outputs c es e) _ later

-- the end of a cycle for an endpoint, one more under its date
end_counts : (gets : Bool) (date : ℕ) (items : List Item) (i : Item) → gets ≡ true → i.at.date ≡ date → count_under date (items ++ one_if gets i) ≡ count_under date items + 1
end_counts true date items i has own = count_more date items i ∙ ap (λ (b : Bool). count_under date items + (if b then 1 else 0)) (eq-eqb i.at.date date own)
end_counts false date items i has own = absurd cc

-- all that an endpoint ever has under the date of a cycle that a Roll ended
count_ended : (c : Config) (newer older : List Entry) (e : List ℕ) (moment date : ℕ) → Lawful c (newer ++ Roll moment date ∷ older) → has_endpoint c.accounts e ≡ true
    → count_under (cycle c older) (outputs c (newer ++ Roll moment date ∷ older) e) ≡ count_under (cycle c older) (outputs c older e) + 1
count_ended c [] older e moment date lawful has = end_counts (has_endpoint c.accounts e) (cycle c older) (outputs c older e) _ has refl
count_ended c (y ∷ newer) older e moment date lawful has =
    let later : cycle c older < cycle c (newer ++ Roll moment date ∷ older) =
    omega (arith, roll_later c newer older moment date lawful.1, roll_lasts c newer older moment date lawful.1) in
    count_stays c y (newer ++ Roll moment date ∷ older) e (cycle c older) lawful later ∙ count_ended c newer older e moment date lawful.1 has

-- the position of an item that there is, or none
position_if : (gets : Bool) (i : Item) → position_in (one_if gets i) ≡ (if gets then Some i.at else None)
position_if true i = refl
position_if false i = refl

-- the position of the end of a cycle has as its number how many outputs of its date the endpoint has
abbrev IsLastUnder : Config → List ℕ → ℕ → List Entry → ℕ → Type 0
IsLastUnder c e date es place = position_at c es e place ≡ Some (record { date = date; seq = count_under date (outputs c es e) })

end_between : (c : Config) (newer older : List Entry) (e : List ℕ) (moment date : ℕ) → Lawful c (newer ++ Roll moment date ∷ older) → has_endpoint c.accounts e ≡ true
    → IsLastUnder c e (cycle c older) (newer ++ Roll moment date ∷ older) (length older)
end_between c newer older e moment date lawful has =
    given_between c newer (Roll moment date) older e ∙ position_if (has_endpoint c.accounts e) _
    ∙ ap (λ (b : Bool). if b then Some (record { date = cycle c older; seq = count_under (cycle c older) (outputs c older e) + 1 }) else None) has
    ∙ ap (λ (n : ℕ). Some (record { date = cycle c older; seq = n })) (sym (count_ended c newer older e moment date lawful has))

-- the same of the entries as they are kept, the oldest first
pub one_date_more : (c : Config) (entries : List Entry) (cycles : List ℕ) → cycles ≡ cycles_of c (reverse entries) → length cycles ≡ length entries + 1
one_date_more c entries cycles is = ap length is ∙ dates_counted c (reverse entries) ∙ ap (λ (n : ℕ). n + 1) (length-reverse entries)

pub present : (c : Config) (entries : List Entry) (cycles : List ℕ) (d : ℕ) → cycles ≡ cycles_of c (reverse entries)
    → get_or cycles (length entries) d ≡ cycle c (reverse entries)
present c entries cycles d is =
    ap (λ (n : ℕ). get_or cycles n d) (sym (length-reverse entries)) ∙ ap (λ (l : List ℕ). get_or l (length (reverse entries)) d) is ∙ last_date c (reverse entries) d

-- an endpoint of the configuration, a place where a Roll stands, and the date there, d standing for one past the last
module _ (c : Config) (es : List Entry) (e : List ℕ) (place moment date ended d : ℕ) (lawful : Lawful c es)
    (at : entry_at es place ≡ Some (Roll moment date)) (has : has_endpoint c.accounts e ≡ true) (before : ended ≡ get_or (cycles_of c es) place d) where
  -- the Roll gives the endpoint the last output under that date
  pub end_at : position_at c es e place ≡ Some (record { date = ended; seq = count_under ended (outputs c es e) })
  end_at =
      at_parts (λ (l : List Entry) (n : ℕ). Lawful c l → ended ≡ get_or (cycles_of c l) n d → IsLastUnder c e ended l n) es place (Roll moment date) at
      (λ newer older sound own. subst (λ (k : ℕ). IsLastUnder c e k (newer ++ Roll moment date ∷ older) (length older))
      (sym (own ∙ date_at c newer (Roll moment date) older d)) (end_between c newer older e moment date sound has))
      lawful before

  -- its number is one of those that a position may have
  pub end_number : (1 ≤ count_under ended (outputs c es e)) × (count_under ended (outputs c es e) ≤ 999_999)
  end_number =
      at_parts (λ (l : List Entry) (n : ℕ). Lawful c l → ended ≡ get_or (cycles_of c l) n d
      → (1 ≤ count_under ended (outputs c l e)) × (count_under ended (outputs c l e) ≤ 999_999)) es place (Roll moment date) at
      (λ newer older sound own. subst
      (λ (k : ℕ). (1 ≤ count_under k (outputs c (newer ++ Roll moment date ∷ older) e)) × (count_under k (outputs c (newer ++ Roll moment date ∷ older) e) ≤ 999_999))
      (sym (own ∙ date_at c newer (Roll moment date) older d)) (number_between newer older sound))
      lawful before
    where
      number_between : (newer older : List Entry) → Lawful c (newer ++ Roll moment date ∷ older)
          → (1 ≤ count_under (cycle c older) (outputs c (newer ++ Roll moment date ∷ older) e))
          × (count_under (cycle c older) (outputs c (newer ++ Roll moment date ∷ older) e) ≤ 999_999)
      number_between newer older sound =
          let few = few_sent c older e (lawful_before c newer (Roll moment date) older sound) in
          let all = count_ended c newer older e moment date sound has in (
            omega (arith, all),
            omega (arith, all, few),
          )

-- where a Roll stands, an endpoint that serves no account has nothing
pub roll_elsewhere : (c : Config) (es : List Entry) (e : List ℕ) (place moment date : ℕ) → entry_at es place ≡ Some (Roll moment date)
    → has_endpoint c.accounts e ≡ false → position_at c es e place ≡ None
roll_elsewhere c es e place moment date at has =
    at_parts (λ (l : List Entry) (n : ℕ). position_at c l e n ≡ None) es place (Roll moment date) at
    (λ newer older. given_between c newer (Roll moment date) older e ∙ position_if (has_endpoint c.accounts e) _
    ∙ ap (λ (b : Bool). if b then Some (record { date = cycle c older; seq = count_under (cycle c older) (outputs c older e) + 1 }) else None) has)

-- where an accepted message stands, its destination has its position, and no other endpoint has anything
pub taken_at : (c : Config) (es : List Entry) (e : List ℕ) (place : ℕ) (h : Head) (body : List ℕ) (resent : Bool) (moment : ℕ) (dest : List ℕ) (seq : ℕ)
    → entry_at es place ≡ Some (Posted h body resent moment (Taken dest seq))
    → position_at c es e place ≡ (if bytes_eq dest e then Some (record { date = h.imad.date; seq = seq }) else None)
taken_at c es e place h body resent moment dest seq at =
    at_parts (λ (l : List Entry) (n : ℕ). position_at c l e n ≡ (if bytes_eq dest e then Some (record { date = h.imad.date; seq = seq }) else None))
    es place (Posted h body resent moment (Taken dest seq)) at
    (λ newer older. given_between c newer (Posted h body resent moment (Taken dest seq)) older e ∙ position_if (bytes_eq dest e) _)

-- where a refused message stands, no endpoint has anything
pub refused_at : (c : Config) (es : List Entry) (e : List ℕ) (place : ℕ) (h : Head) (body : List ℕ) (resent : Bool) (moment : ℕ) (why : Reject)
    → entry_at es place ≡ Some (Posted h body resent moment (Refused why)) → position_at c es e place ≡ None
refused_at c es e place h body resent moment why at =
    at_parts (λ (l : List Entry) (n : ℕ). position_at c l e n ≡ None) es place (Posted h body resent moment (Refused why)) at
    (λ newer older. given_between c newer (Posted h body resent moment (Refused why)) older e)

past_by : (x : Entry) (es : List Entry) (place : ℕ) (here : Bool) → (length es == place) ≡ here → (if here then Some x else entry_at es place) ≡ None
    → (entry_at es place ≡ None → length es ≤ place) → length (x ∷ es) ≤ place
past_by x es place true test none rest = absurd cc
past_by x es place false test none rest =
    let le : length es ≤ place = rest none in
    let apart : length es ≢ place = eqb-false (length es) place test in
    omega arith

-- a place where no entry stands is past the newest
-- an entry stands below the length
pub below : (es : List Entry) (place : ℕ) (x : Entry) → entry_at es place ≡ Some x → place < length es
below [] place x at = absurd cc
below (y ∷ es) place x at = grind (arith, nat_tests, below es place x)

past_end : (es : List Entry) (place : ℕ) → entry_at es place ≡ None → length es ≤ place
past_end [] place none = omega arith
past_end (x ∷ es) place none = past_by x es place (length es == place) refl none (past_end es place)

-- where no entry stands, no endpoint has anything
pub nothing_there : (c : Config) (es : List Entry) (e : List ℕ) (place : ℕ) → entry_at es place ≡ None → position_at c es e place ≡ None
nothing_there c es e place none = ap (λ (o : Option Item). option_map (λ (i : Item). i.at) o) (none_past c es e place (past_end es place none))

pub message_at : (c : Config) (es : List Entry) (e : List ℕ) (place : ℕ) (h : Head) (body : List ℕ) (resent : Bool) (moment : ℕ) (v : Verdict)
    → entry_at es place ≡ Some (Posted h body resent moment v) → position_at c es e place ≡ position_by h v e
message_at c es e place h body resent moment (Taken dest seq) at = taken_at c es e place h body resent moment dest seq at
message_at c es e place h body resent moment (Refused why) at = refused_at c es e place h body resent moment why at
