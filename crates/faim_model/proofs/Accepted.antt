-- What an acceptance tells, and how much a retrieval gives.
use Rattle.std.proofs.Common.{◌≡◌, refl, sym, ◌∙◌, ap, subst, ℕ, ◌+◌, ◌*◌, ◌<◌, ◌≤◌, Bool, true, false, not, ◌&&◌, List, [], ◌∷◌, length, filter, min, Option, Some, None, is_none, nat_le, if◌then◌else◌, arith}
use Rattle.std.specs.Prelude.{codes, IsSome}
use Rattle.std.proofs.lemmas.Bool.{eqb-true}
use Rattle.std.proofs.lemmas.Bool.Decides.{nat_tests}
use Rattle.std.proofs.lemmas.List.{length-take}
use Rattle.faim_base.specs.declared.ids.OutPos.{OutPos}
use Rattle.faim_base.specs.declared.judgement.Head.{Head}
use Rattle.faim_base.specs.declared.judgement.Verdict.TheVariants.{Taken}
use Rattle.host_ledger.specs.declared.config.Config.{Config}
use Rattle.host_ledger.specs.declared.entries.Entry.{Entry}
use Rattle.host_ledger.specs.declared.entries.Entry.TheVariants.{Posted, Roll}
use Rattle.host_ledger.specs.Accounts.{account_of, endpoint_of}
use Rattle.host_ledger.specs.Lists.{counted}
use Rattle.host_ledger.specs.Sums.{cycle}
use Rattle.faim_model.specs.Outputs.{Item, is_from, outputs, retrieved, sent_in_cycle}
use Rattle.faim_model.specs.Verdicts.{is_customer, is_past}
use Rattle.faim_model.specs.Lawful.{IsAccepted, Lawful, last_moment, moment_of}
use Rattle.faim_model.proofs.Balances.{leaves_floor}
use Rattle.faim_model.proofs.Imads.{bytes_equal, bytes_pass}
use Rattle.faim_model.proofs.Judgements.{posted_taken}

known_is_some : {A : Type 0} (o : Option A) → is_none o ≡ false → IsSome o
known_is_some None known = absurd cc
known_is_some (Some a) known = refl

pub not_yet : (limit moment : ℕ) → nat_le limit moment ≡ false → moment < limit
not_yet limit moment early = grind (arith, nat_tests)

customer_early : (is_one past : Bool) → is_one && past ≡ false → is_one ≡ true → past ≡ false
customer_early true past in_time one = in_time
customer_early false past in_time one = absurd cc

bank_early : (is_one past : Bool) → not is_one && past ≡ false → (is_one ≡ true → ⊥) → past ≡ false
bank_early true past in_time other = absurd (other refl)
bank_early false past in_time other = in_time

pub accepted : (c : Config) (older : List Entry) (h : Head) (body : List ℕ) (resent : Bool) (moment : ℕ) (dest : List ℕ) (seq : ℕ)
    → Lawful c (Posted h body resent moment (Taken dest seq) ∷ older) → IsAccepted c older h moment dest seq
accepted c older h body resent moment dest seq lawful =
    let taken = posted_taken c older h body resent moment dest seq lawful.0 in
    let place : endpoint_of c h.receiver ≡ dest = taken.dest_is in
    let next : seq ≡ sent_in_cycle c older dest + 1 =
    subst (λ (e : List ℕ). seq ≡ sent_in_cycle c older e + 1) place (sym taken.seq_is) in
    let few : sent_in_cycle c older (endpoint_of c h.receiver) < 999_998 = not_yet 999_998 (sent_in_cycle c older (endpoint_of c h.receiver)) taken.not_full in
    record {
      current = eqb-true h.imad.date (cycle c older) taken.in_cycle;
      sender = taken.is_served;
      receiver = known_is_some (account_of c h.receiver) taken.receiver_known;
      output = sym place;
      number = next;
      kept = omega (arith, taken.seq_is, few);
      customers = λ code. not_yet (1440 * cycle c older + c.customer) moment
          (customer_early (is_customer h) (is_past c older c.customer moment) taken.customer_in_time (bytes_pass h.code (codes "CTR") code));
      banks = λ code. not_yet (1440 * cycle c older + c.bank) moment
          (bank_early (is_customer h) (is_past c older c.bank moment) taken.bank_in_time (λ same. code (bytes_equal h.code (codes "CTR") same)));
      floor = leaves_floor c older h body resent moment dest seq lawful;
    }

pub follows_in_time : (c : Config) (older : List Entry) (x : Entry) → Lawful c (x ∷ older) → last_moment older ≤ moment_of x
follows_in_time c older (Posted h body resent moment v) lawful = lawful.0.in_time
follows_in_time c older (Roll moment date) lawful = lawful.0.in_time

one_passes : (passes : Bool) (i : Item) (kept : List Item) (n : ℕ) → length kept ≡ n → length (if passes then i ∷ kept else kept) ≡ n + (if passes then 1 else 0)
one_passes true i kept n same = omega arith
one_passes false i kept n same = omega arith

filter_counted : (p : Item → Bool) (items : List Item) → length (filter p items) ≡ counted p items
filter_counted p [] = refl
filter_counted p (i ∷ items) = one_passes (p i) i (filter p items) (counted p items) (filter_counted p items)

pub retrieved_count : (c : Config) (es : List Entry) (e : List ℕ) (p : OutPos)
    → length (retrieved c es e p) ≡ min 64 (counted (is_from p) (outputs c es e))
retrieved_count c es e p = length-take 64 (filter (is_from p) (outputs c es e)) ∙ ap (min 64) (filter_counted (is_from p) (outputs c es e))
