-- What a host's list holds is in its ranges, whatever the moments of its entries.
use Rattle.std.proofs.Common.{◌≡◌, ⊎_elim, refl, sym, subst, ℕ, ◌≤◌, ◌||◌, Bool, true, false, List, [], ◌∷◌, Option, Some, None, IfSome, arith}
use Rattle.std.specs.Prelude.{bytes_eq}
use Rattle.std.specs.List.{AllByRecursion, Contains}
use Rattle.std.proofs.lemmas.List.Elements.{Contains-append_cases}
use Rattle.faim_base.specs.declared.judgement.Head.{Head}
use Rattle.faim_base.specs.declared.judgement.Verdict.{Verdict}
use Rattle.faim_base.specs.declared.judgement.Verdict.TheVariants.{Taken, Refused}
use Rattle.faim_base.specs.Numbers.{IsDay}
use Rattle.faim_base.specs.Ranges.{IsEndpoint, IsImad, IsPosition}
use Rattle.faim_message.proofs.HeadRanges.{in_range}
use Rattle.host_ledger.specs.declared.config.Account.{Account}
use Rattle.host_ledger.specs.declared.config.Config.{Config}
use Rattle.host_ledger.specs.declared.entries.Entry.{Entry}
use Rattle.host_ledger.specs.declared.entries.Entry.TheVariants.{Posted, Roll}
use Rattle.host_ledger.specs.Accounts.{has_endpoint}
use Rattle.host_ledger.specs.Ranges.{IsVerdict}
use Rattle.host_ledger.specs.Soundness.{IsAccount, IsConfig}
use Rattle.host_ledger.specs.Sums.{cycle}
use Rattle.faim_model.specs.Outputs.{Item, item_of, one_if, outputs, sent_in_cycle}
use Rattle.faim_model.specs.Submissions.{text_with}
use Rattle.faim_model.specs.Lawful.{Lawful}
use Rattle.faim_model.proofs.Accepted.{accepted}
use Rattle.faim_model.proofs.Exact.{dest_served, item_served}
use Rattle.faim_model.proofs.Imads.{bytes_equal}
use Rattle.faim_model.proofs.Members.{first_or_later, none_in}
use Rattle.faim_model.proofs.Positions.{few_sent}
use Rattle.faim_model.proofs.Recorded.{kept_recorded}
use Rattle.faim_model.proofs.Submitted.{numbered_from}

-- an endpoint of accounts is one
account_endpoint : (accounts : List Account) (e : List ℕ) → AllByRecursion IsAccount accounts → has_endpoint accounts e ≡ true → IsEndpoint e
account_endpoint [] e each served = absurd (let wrong : false ≡ true = served in cc)
account_endpoint (a ∷ rest) e each served = here (bytes_eq a.endpoint e) refl (account_endpoint rest e each.1) served
  where
    here : (b : Bool) → bytes_eq a.endpoint e ≡ b → (has_endpoint rest e ≡ true → IsEndpoint e) → b || has_endpoint rest e ≡ true → IsEndpoint e
    here true same later served = subst IsEndpoint (bytes_equal a.endpoint e same) each.0.endpoint
    here false same later served = later served

-- the identifier and the verdict of an entry
pub record Fits (h : Head) (v : Verdict) : Type 0 where
  pub imad : IsImad h.imad
  pub verdict : IsVerdict v

verdict_fits : (c : Config) (older : List Entry) (h : Head) (body : List ℕ) (resent : Bool) (moment : ℕ) (v : Verdict) → IsConfig c
    → Lawful c (Posted h body resent moment v ∷ older) → IsVerdict v
verdict_fits c older h body resent moment (Refused why) sound lawful =
    kept_recorded c older h.imad.source moment (text_with lawful.0.mark body) why lawful.0.judged
verdict_fits c older h body resent moment (Taken dest seq) sound lawful =
    let a = accepted c older h body resent moment dest seq lawful in (
      account_endpoint c.accounts dest sound.accounts.each (dest_served c older h body resent moment dest seq lawful.0),
      (omega (arith, a.number), omega (arith, a.kept)),
    )

newest_fits : (c : Config) (older : List Entry) (h : Head) (body : List ℕ) (resent : Bool) (moment : ℕ) (v : Verdict) → IsConfig c
    → Lawful c (Posted h body resent moment v ∷ older) → Fits h v
newest_fits c older h body resent moment v sound lawful =
    let n = numbered_from c.env body h body 32 lawful.0.failed lawful.0.spelled in
    record {
      imad = (in_range n.message h n.spells.sound n.is_input n.head).imad;
      verdict = verdict_fits c older h body resent moment v sound lawful;
    }

pub posted_fits : (c : Config) (es : List Entry) (h : Head) (body : List ℕ) (resent : Bool) (moment : ℕ) (v : Verdict) → IsConfig c → Lawful c es
    → Contains es (Posted h body resent moment v) → Fits h v
posted_fits c [] h body resent moment v sound lawful there = absurd (none_in (Posted h body resent moment v) there)
posted_fits c (x ∷ older) h body resent moment v sound lawful there =
    ⊎_elim
    (λ (here : Posted h body resent moment v ≡ x).
    newest_fits c older h body resent moment v sound (subst (λ (y : Entry). Lawful c (y ∷ older)) (sym here) lawful))
    (λ (later : Contains older (Posted h body resent moment v)). posted_fits c older h body resent moment v sound lawful.1 later)
    (first_or_later x (Posted h body resent moment v) older there)

-- the date that goes on after an entry's output: that of a Roll
abbrev pub next_of : Entry → Option ℕ
next_of (Posted h body resent moment v) = None
next_of (Roll moment date) = Some date

-- an output of an endpoint has a position, its endpoint serves an account, and the date after it is a day
pub record IsGiven (c : Config) (e : List ℕ) (i : Item) : Type 0 where
  pub position : IsPosition i.at
  pub served : has_endpoint c.accounts e ≡ true
  pub next : IfSome (next_of i.entry) IsDay

-- the cycle date is a day
cycle_day : (c : Config) (es : List Entry) → IsConfig c → Lawful c es → IsDay (cycle c es)
cycle_day c [] sound lawful = sound.date
cycle_day c (Roll moment date ∷ older) sound lawful = lawful.0.day
cycle_day c (Posted h body resent moment v ∷ older) sound lawful = cycle_day c older sound lawful.1

one_if_is : (gets : Bool) (own i : Item) → Contains (one_if gets own) i → i ≡ own
one_if_is true own i there = ⊎_elim (λ here. here) (λ (later : Contains [] i). absurd (none_in i later)) (first_or_later own i [] there)
one_if_is false own i there = absurd (none_in i there)

own_given : (c : Config) (older : List Entry) (x : Entry) (e : List ℕ) (i : Item) → IsConfig c → Lawful c (x ∷ older)
    → Contains (item_of c older (outputs c older e) x e) i → has_endpoint c.accounts e ≡ true → IsGiven c e i
own_given c older (Posted h body resent moment (Taken dest seq)) e i sound lawful there served =
    let fits = newest_fits c older h body resent moment (Taken dest seq) sound lawful in
    subst (IsGiven c e) (sym (one_if_is (bytes_eq dest e) _ i there))
    (record { position = record { day = fits.imad.day; number = fits.verdict.1 }; served = served; next = tt })
own_given c older (Posted h body resent moment (Refused why)) e i sound lawful there served = absurd (none_in i there)
own_given c older (Roll moment date) e i sound lawful there served =
    let few : sent_in_cycle c older e ≤ 999_998 = few_sent c older e lawful.1 in
    subst (IsGiven c e) (sym (one_if_is (has_endpoint c.accounts e) _ i there)) (record {
      position = record { day = cycle_day c older sound lawful.1; number = (omega arith, omega (arith, few)) };
      served = served;
      next = lawful.0.day;
    })

pub each_given : (c : Config) (es : List Entry) (e : List ℕ) (i : Item) → IsConfig c → Lawful c es → Contains (outputs c es e) i → IsGiven c e i
each_given c [] e i sound lawful there = absurd (none_in i there)
each_given c (x ∷ older) e i sound lawful there =
    ⊎_elim (λ (early : Contains (outputs c older e) i). each_given c older e i sound lawful.1 early)
    (λ (own : Contains (item_of c older (outputs c older e) x e) i).
    own_given c older x e i sound lawful own (item_served c older 32 x (outputs c older e) e i lawful.0 own))
    (Contains-append_cases (outputs c older e) (item_of c older (outputs c older e) x e) i there)

pub given_line : (c : Config) (e : List ℕ) (i : Item) → IsConfig c → IsGiven c e i → IsEndpoint e
given_line c e i sound given = account_endpoint c.accounts e sound.accounts.each given.served
