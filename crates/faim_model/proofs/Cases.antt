-- What a decision says of the tests that led to it.
use Rattle.std.proofs.Common.{◌≡◌, refl, ℕ, Bool, true, false, not, List, Option, Some, None, if◌then◌else◌}
use Rattle.std.specs.Option.{option_map_or}
use Rattle.faim_base.specs.declared.judgement.Reject.{Reject}
use Rattle.faim_base.specs.declared.judgement.Verdict.{Verdict}
use Rattle.faim_base.specs.declared.judgement.Verdict.TheVariants.{Taken}
use Rattle.faim_base.specs.Refusals.{e161, e162, f401, h101, i501, w301, w302}
use Rattle.faim_model.specs.declared.decisions.Decision.{Decision}
use Rattle.faim_model.specs.declared.decisions.Decision.TheVariants.{New, Known, Differs, WrongSource}
use Rattle.faim_model.specs.Verdicts.{refused}

-- a new verdict: the line is the source's, and no entry has the identifier
pub record IsNew (own : Bool) (known differs : Option ℕ) (rest : Decision) (v : Verdict) : Type 0 where
  pub own_line : own ≡ true
  pub unknown : known ≡ None
  pub fresh : differs ≡ None
  pub rest_is : rest ≡ New v

pub new_case : (own : Bool) (known differs : Option ℕ) (rest : Decision) (v : Verdict)
    → (if not own then WrongSource else option_map_or Known known (option_map_or Differs differs rest)) ≡ New v → IsNew own known differs rest v
new_case false known differs rest v new = absurd cc
new_case true (Some place) differs rest v new = absurd cc
new_case true None (Some place) rest v new = absurd cc
new_case true None None rest v new = record { own_line = refl; unknown = refl; fresh = refl; rest_is = new }

-- an accepted message: no test refused it, and it got this endpoint and this number
pub record IsTaken (current served stranger customer_late bank_late low full : Bool) (to : List ℕ) (number : ℕ) (dest : List ℕ) (seq : ℕ) : Type 0 where
  pub in_cycle : current ≡ true
  pub is_served : served ≡ true
  pub receiver_known : stranger ≡ false
  pub customer_in_time : customer_late ≡ false
  pub bank_in_time : bank_late ≡ false
  pub not_low : low ≡ false
  pub not_full : full ≡ false
  pub dest_is : to ≡ dest
  pub seq_is : number ≡ seq

pub taken_case : (current : Bool) (failed : Option Reject) (served stranger customer_late bank_late low full : Bool) (to : List ℕ) (number : ℕ) (dest : List ℕ) (seq : ℕ)
    → (if not current then refused h101
    else option_map_or refused failed (
    if not served then refused e161
    else if stranger then refused e162
    else if customer_late then refused w301
    else if bank_late then refused w302
    else if low then refused f401
    else if full then refused i501
    else New (Taken to number))) ≡ New (Taken dest seq)
    → IsTaken current served stranger customer_late bank_late low full to number dest seq
taken_case false failed served stranger customer_late bank_late low full to number dest seq taken = absurd cc
taken_case true (Some why) served stranger customer_late bank_late low full to number dest seq taken = absurd cc
taken_case true None false stranger customer_late bank_late low full to number dest seq taken = absurd cc
taken_case true None true true customer_late bank_late low full to number dest seq taken = absurd cc
taken_case true None true false true bank_late low full to number dest seq taken = absurd cc
taken_case true None true false false true low full to number dest seq taken = absurd cc
taken_case true None true false false false true full to number dest seq taken = absurd cc
taken_case true None true false false false false true to number dest seq taken = absurd cc
taken_case true None true false false false false false to number dest seq taken = record {
  in_cycle = refl;
  is_served = refl;
  receiver_known = refl;
  customer_in_time = refl;
  bank_in_time = refl;
  not_low = refl;
  not_full = refl;
  dest_is = cc;
  seq_is = cc;
}
