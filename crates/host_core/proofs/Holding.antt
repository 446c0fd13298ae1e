-- What a host keeps beside its list, when an entry is appended or taken back.
use Rattle.std.proofs.Common.{◌≡◌, refl, sym, ◌∙◌, ap, subst, ℕ, suc, ◌+◌, ◌-◌, ◌<◌, ◌≤◌, Bool, List, [], ◌∷◌, ◌++◌, length, take, drop, map, reverse, Option, Some, option_map, arith}
use Rattle.std.specs.Option.{option_to_list}
use Rattle.std.proofs.lemmas.List.{reverse-append}
use Rattle.std.proofs.Math.Seq.{take-append_seam}
use Rattle.faim_base.specs.declared.judgement.Head.{Head}
use Rattle.faim_base.specs.declared.judgement.Verdict.{Verdict}
use Rattle.faim_base.specs.declared.judgement.Verdict.TheVariants.{Taken, Refused}
use Rattle.host_ledger.specs.declared.config.Config.{Config}
use Rattle.host_ledger.specs.declared.entries.Entry.{Entry}
use Rattle.host_ledger.specs.declared.entries.Entry.TheVariants.{Posted, Roll}
use Rattle.host_ledger.specs.Accounts.{endpoints_of}
use Rattle.host_ledger.specs.Ledgers.{Row, Stands}
use Rattle.host_ledger.specs.Sums.{balance, cycle}
use Rattle.host_ledger.proofs.Balances.{roll_leaves}
use Rattle.host_ledger.proofs.Rows.{rows_agree}
use Rattle.host_index.specs.Index.{Index, EndsInRoll, after_roll, before_posting, before_roll}
use Rattle.host_index.proofs.TakenBack.{dests, posting_back, roll_back, roll_last}
use Rattle.faim_model.specs.Outputs.{sent_in_cycle}
use Rattle.host_core.specs.Kept.{Kept, cycles_of, dest_by, ends_after, index_of, output_by}
use Rattle.host_core.proofs.CycleEnds.{dates_counted}

-- a Roll leaves the balances as they were before it
roll_forgotten : (rows : List Row) (c : Config) (es : List Entry) (moment date : ℕ) → Stands rows c (Roll moment date ∷ es) → Stands rows c es
roll_forgotten rows c es moment date stands = record {
  accounts = stands.accounts ∙ rows_agree (balance c (Roll moment date ∷ es)) (balance c es) (roll_leaves c es moment date) c.accounts;
  amounts = stands.amounts.1;
}

-- a Roll more: the ends that it gives, and the date that it begins
pub kept_roll : (c : Config) (es : List Entry) (moment date : ℕ)
    (rows : List Row) (index : Index) (cycles : List ℕ) (endpoints : List (List ℕ))
    → Kept c es rows index cycles endpoints → Stands rows c (Roll moment date ∷ es)
    → Kept c (Roll moment date ∷ es) rows (after_roll (ends_after c es) (length es) index) (cycles ++ date ∷ []) endpoints
kept_roll c es moment date rows index cycles endpoints kept stands = record {
  balances = stands;
  places = ap (after_roll (ends_after c es) (length es)) kept.places;
  dates = ap (λ (dates : List ℕ). dates ++ date ∷ []) kept.dates;
  banks = kept.banks;
}

-- the dates up to an entry are those of the entries before it
dates_before : (c : Config) (x : Entry) (older : List Entry) → take (length older + 1) (cycles_of c (x ∷ older)) ≡ cycles_of c older
dates_before c x older =
    ap (λ (n : ℕ). take n (cycles_of c (x ∷ older))) (sym (dates_counted c older)) ∙ take-append_seam (cycles_of c older) (cycle c (x ∷ older) ∷ [])

dest_given : (h : Head) (v : Verdict) → option_map (λ end. end.0) (output_by h v) ≡ dest_by v
dest_given h (Taken dest seq) = refl
dest_given h (Refused why) = refl

-- a message less
pub message_back : (c : Config) (es : List Entry) (h : Head) (body : List ℕ) (resent : Bool) (moment : ℕ) (v : Verdict)
    (rows earlier : List Row) (index : Index) (cycles : List ℕ) (endpoints : List (List ℕ))
    → Kept c (Posted h body resent moment v ∷ es) rows index cycles endpoints → Stands earlier c es
    → Kept c es earlier (before_posting (dest_by v) index) (take (length es + 1) cycles) endpoints
message_back c es h body resent moment v rows earlier index cycles endpoints kept stands = record {
  balances = stands;
  places = ap (before_posting (dest_by v)) kept.places
      ∙ ap (λ (dest : Option (List ℕ)). before_posting dest (index_of c (Posted h body resent moment v ∷ es))) (sym (dest_given h v))
      ∙ posting_back (index_of c es) h.imad (output_by h v) (length es);
  dates = ap (take (length es + 1)) kept.dates ∙ dates_before c (Posted h body resent moment v) es;
  banks = kept.banks;
}

ends_to : (c : Config) (es : List Entry) (endpoints : List (List ℕ)) → dests (map (λ e. (e, record { date = cycle c es; seq = sent_in_cycle c es e + 1 })) endpoints) ≡ endpoints
ends_to c es [] = refl
ends_to c es (e ∷ endpoints) = ap (λ (l : List (List ℕ)). e ∷ l) (ends_to c es endpoints)

-- the ends of the newest Roll are what the index added last
pub ends_last : (c : Config) (es : List Entry) (moment date : ℕ) (rows : List Row) (index : Index) (cycles : List ℕ) (endpoints : List (List ℕ))
    → Kept c (Roll moment date ∷ es) rows index cycles endpoints → EndsInRoll endpoints index
ends_last c es moment date rows index cycles endpoints kept =
    subst (EndsInRoll endpoints) (sym kept.places)
    (subst (λ (dests : List (List ℕ)). EndsInRoll dests (index_of c (Roll moment date ∷ es))) (ends_to c es (endpoints_of c.accounts) ∙ sym kept.banks)
    (roll_last (index_of c es) (ends_after c es) (length es)))

-- a Roll less
pub roll_less : (c : Config) (es : List Entry) (moment date : ℕ) (rows : List Row) (index : Index) (cycles : List ℕ) (endpoints : List (List ℕ))
    → Kept c (Roll moment date ∷ es) rows index cycles endpoints
    → Kept c es rows (before_roll endpoints index) (take (length es + 1) cycles) endpoints
roll_less c es moment date rows index cycles endpoints kept = record {
  balances = roll_forgotten rows c es moment date kept.balances;
  places = ap (before_roll endpoints) kept.places
      ∙ ap (λ (dests : List (List ℕ)). before_roll dests (index_of c (Roll moment date ∷ es))) (kept.banks ∙ sym (ends_to c es (endpoints_of c.accounts)))
      ∙ roll_back (index_of c es) (ends_after c es) (length es);
  dates = ap (take (length es + 1)) kept.dates ∙ dates_before c (Roll moment date) es;
  banks = kept.banks;
}

-- what is taken off the end of a list as it is kept, the oldest first, is the newest
pub newest_taken : (old new : List Entry) (taken : Option Entry) (x : Entry) → old ≡ new ++ option_to_list taken → taken ≡ Some x → reverse old ≡ x ∷ reverse new
newest_taken old new taken x parts is =
    ap reverse (parts ∙ ap (λ (o : Option Entry). new ++ option_to_list o) is) ∙ reverse-append new (x ∷ [])

-- one entry less of those that are left
pub one_less : (len : ℕ) (es left : List Entry) → len < length es → left ≡ drop 1 es → drop (length left - len) left ≡ drop (length es - len) es
one_less len [] left lt is = absurd (omega (arith, lt))
one_less len (x ∷ older) left lt is =
    ap (λ (l : List Entry). drop (length l - len) l) is
    ∙ ap (λ (n : ℕ). drop n (x ∷ older)) (less (length older) len (omega (arith, lt)))
  where
    less : (n k : ℕ) → k ≤ n → suc (n - k) ≡ suc n - k
    less n k le = omega (arith, le)
