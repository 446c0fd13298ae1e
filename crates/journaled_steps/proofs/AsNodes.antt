-- What is said of a list that was found is said of a node that has it.
use Rattle.std.proofs.Common.{◌≡◌, inl, inr, ℕ, List, refl, sym, ◌∙◌, ap, subst, append-nil, arith, Result, Ok, Err, Some, None, Option}
use Rattle.std.specs.Prelude.{IfSome}
use Rattle.site_core.specs.Log.{reads, sent}
use Rattle.site_core.specs.Told.{Told}
use Rattle.site_core.proofs.Moments.{only_reads}
use Rattle.journaled_list.specs.declared.faults.OpenFault.{OpenFault}
use Rattle.journaled_list.specs.declared.faults.OpenFault.TheVariants.{SiteFault, LineFault, NoHeader, Damaged, NoMemory}
use Rattle.journaled_list.specs.Loading.{Found, AnswersImage}
use Rattle.journaled_list.specs.Payloads.{Stands}
use Rattle.journaled_list.specs.Ready.{IsReady}
use Rattle.journaled_list.specs.Resuming.{may_have_sent, OpenCalls, ResumeCalls, ResumesAll}
use Rattle.journaled_list.specs.Rules.{Rules, Listed}

same_sent : (T U : Type 0) (e : OpenFault) → may_have_sent {T = T} (Err e) ≡ may_have_sent {T = U} (Err e)
same_sent T U SiteFault = refl
same_sent T U LineFault = refl
same_sent T U NoHeader = refl
same_sent T U (Damaged place) = refl
same_sent T U NoMemory = refl

abbrev pub unread : (U : Type 0) → Result U OpenFault
unread U = Err NoMemory

module _ {O E T U : Type 0} (rules : Rules O E) (view : T → Found O E) (other : U → Found O E) (again : Listed O E → ℕ → List (List ℕ)) (x y : Told) where
  pub resumed_as : (k : T) (h : U) → view k ≡ other h → ResumesAll rules view again (Ok k) x y → ResumesAll rules other again (Ok h) x y
  resumed_as k h same all = λ list last quiet stands.
      let r = all list last quiet stands in
      record {
        each = r.each;
        none_sent = λ no. absurd cc;
        pending = r.pending;
        image = r.image;
        most = r.most;
        all = r.all;
        ready = (subst (λ (f : Found O E). IsReady rules f y) same r.ready.0, ap (λ (f : Found O E). f.list) (sym same) ∙ r.ready.1, ap (λ (f : Found O E). f.last) (sym same) ∙ r.ready.2);
      }

  pub failed_as : (e : OpenFault) → ResumesAll rules view again (Err e) x y → ResumesAll rules other again (Err e) x y
  failed_as e all = λ list last quiet stands.
      let r = all list last quiet stands in
      record {
        each = r.each;
        none_sent = λ no. r.none_sent (same_sent T U e ∙ no);
        pending = r.pending;
        image = r.image;
        most = r.most;
        all = tt;
        ready = tt;
      }

  pub unopened_calls : (e : OpenFault) → ResumeCalls rules view again (Err e) x y → OpenCalls rules other again (Err e) x y
  unopened_calls SiteFault calls = calls
  unopened_calls LineFault calls = (calls.0, calls.1, record { mid = calls.2.mid; looked = calls.2.looked; sends = calls.2.sends })
  unopened_calls NoHeader calls = calls
  unopened_calls (Damaged place) calls = calls
  unopened_calls NoMemory calls = inr calls

-- there is no memory for what reads, and nothing happened
module _ {O E U : Type 0} (rules : Rules O E) (other : U → Found O E) (again : Listed O E → ℕ → List (List ℕ)) where
  untouched_image : (image : List ℕ) → AnswersImage rules other image (unread U)
  untouched_image image = record { sound = λ list last stands. tt; damaged = λ place damaged. tt; headless = λ none. tt }

  pub any_image : (told : Option Told) → IfSome told (λ site. AnswersImage rules other (reads site.log) (unread U))
  any_image None = tt
  any_image (Some site) = untouched_image (reads site.log)

  pub untouched_calls : (x : Told) → OpenCalls rules other again (unread U) x x
  untouched_calls x = inl refl

  pub untouched_moments : (x : Told) → ResumesAll rules other again (unread U) x x
  untouched_moments x list last pending stands =
      record {
        each = λ image found left.
            let now = only_reads x.log image found pending left in
            record {
              stands = subst (λ (i : List ℕ). Stands rules i list last) (sym now.0) stands;
              number = 0;
              few = omega arith;
              made = omega arith;
              found_are = now.1 ∙ sym (append-nil (sent x.log));
            };
        none_sent = λ never image found left. (only_reads x.log image found pending left).1;
        pending = pending;
        image = refl;
        most = λ payloads journal. omega arith;
        all = tt;
        ready = tt;
      }
