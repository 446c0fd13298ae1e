use Rattle.std.proofs.Common.{◌≡◌, ℕ, Bool, true, false, cond, List, Option, Some, None, refl, sym, ap, ◌∙◌, not, map}
use Rattle.std.specs.Prelude.{option_map, if◌then◌else◌}
use Rattle.std.specs.List.{find}
use Rattle.faim_base.specs.Refusals.{is_edit_number}
use Rattle.faim_message.specs.Edits.{edits, first_failed}
use Rattle.faim_edits.proofs.Failing.{first_outcome, failed_is_edit}
use Rattle.faim_edits.proofs.table.first_failed.Goals as goal

-- a number of an edit is one
as_edit : (n : ℕ) → is_edit_number n ≡ true → (if is_edit_number n then Some n else None) ≡ Some n
as_edit n is = here (is_edit_number n) is
  where
    here : (b : Bool) → b ≡ true → (if b then Some n else None) ≡ Some n
    here true is = refl
    here false is = absurd (let wrong : false ≡ true = is in cc)

pub returns-in-Some : goal.returns-in-Some
returns-in-Some c =
    let env = c.args.env in
    let m = c.args.m.now in
    let all : c.first_that_fails.result ≡ first_failed env m = c.first_that_fails.ensures ∙ ap (λ (o : List (ℕ × Bool)). option_map (λ (r : ℕ × Bool). r.0) (find (λ (r : ℕ × Bool). not r.1) o)) c.outcomes.ensures ∙ first_outcome m (edits env) in
    let found : first_failed env m ≡ Some c.in-Some.number = sym all ∙ c.in-Some.is in
    c.new.ensures ∙ as_edit c.in-Some.number (failed_is_edit env m c.in-Some.number found) ∙ sym found

pub returns-in-None : goal.returns-in-None
returns-in-None c =
    let env = c.args.env in
    let m = c.args.m.now in
    let all : c.first_that_fails.result ≡ first_failed env m = c.first_that_fails.ensures ∙ ap (λ (o : List (ℕ × Bool)). option_map (λ (r : ℕ × Bool). r.0) (find (λ (r : ℕ × Bool). not r.1) o)) c.outcomes.ensures ∙ first_outcome m (edits env) in
    sym c.in-None.is ∙ all
