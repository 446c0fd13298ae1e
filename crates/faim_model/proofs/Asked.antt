-- What a frame asks, by its kind and its payload.
use Rattle.std.proofs.Common.{◌≡◌, refl, sym, ap, ◌∙◌, ℕ, ◌==◌, Bool, true, false, cond, List, length, Option, Some, None}
use Rattle.std.proofs.lemmas.Bool.{eq-eqb, eqb-true}
use Rattle.faim_base.specs.declared.ids.OutPos.{OutPos}
use Rattle.faim_base.specs.Calendar.{date_text, read_date}
use Rattle.faim_base.specs.Ids.{position_text, read_position}
use Rattle.faim_base.specs.Numbers.{IsDay}
use Rattle.faim_base.specs.Ranges.{IsPosition}
use Rattle.faim_base.proofs.DateLemmas.{date_text-read_date, length-date_text, read_date-date_text}
use Rattle.faim_base.proofs.IdLemmas.{length-position_text, position_text-read_position, read_position-position_text}
use Rattle.faim_model.specs.Steps.{date_in, position_in}

-- a text is read where it has its length
read_at : {A : Type 0} (long : Bool) (read : Option A) (x : A) → cond long read None ≡ Some x → (long ≡ true) × (read ≡ Some x)
read_at true read x found = (refl, found)
read_at false read x found = absurd cc

pub date_found : (payload : List ℕ) (date : ℕ) → date_in payload ≡ Some date → (payload ≡ date_text date) × IsDay date
date_found payload date found =
    let both = read_at (length payload == 8) (read_date payload) date found in
    let is = date_text-read_date payload date (eqb-true (length payload) 8 both.0) both.1 in
    (sym is.0, is.1)

pub date_there : (payload : List ℕ) (date : ℕ) → payload ≡ date_text date → IsDay date → date_in payload ≡ Some date
date_there payload date is day =
    ap date_in is ∙ ap (λ (b : Bool). cond b (read_date (date_text date)) None) (eq-eqb (length (date_text date)) 8 (length-date_text date)) ∙ read_date-date_text date day

pub position_found : (payload : List ℕ) (p : OutPos) → position_in payload ≡ Some p → (payload ≡ position_text p) × IsPosition p
position_found payload p found =
    let both = read_at (length payload == 14) (read_position payload) p found in
    let is = position_text-read_position payload p (eqb-true (length payload) 14 both.0) both.1 in
    (sym is.0, is.1)

pub position_there : (payload : List ℕ) (p : OutPos) → payload ≡ position_text p → IsPosition p → position_in payload ≡ Some p
position_there payload p is sound =
    ap position_in is ∙ ap (λ (b : Bool). cond b (read_position (position_text p)) None) (eq-eqb (length (position_text p)) 14 (length-position_text p))
    ∙ read_position-position_text p sound
