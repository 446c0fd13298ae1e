-- A message that nothing refuses is accepted.
use Rattle.std.proofs.Common.{◌≡◌, refl, sym, ◌∙◌, ap, subst, ℕ, ◌+◌, ◌*◌, ◌<◌, ◌==◌, Bool, true, false, not, ◌&&◌, List, [], ◌∷◌, Option, Some, None, is_none, nat_le, if◌then◌else◌, arith, ℤ, pos, ◌-ℤ◌, ◌≤ℤ◌}
use Rattle.std.proofs.lemmas.Bool.{eq-eqb}
use Rattle.std.proofs.lemmas.Bool.Decides.{nat_tests}
use Rattle.std.proofs.lemmas.Int.{ints}
use Rattle.std.specs.Option.{option_map_or}
use Rattle.std.specs.Prelude.{codes, int_lt, IsSome}
use Rattle.std.specs.Str.{bytes_eq}
use Rattle.faim_base.specs.declared.ids.Imad.{Imad}
use Rattle.faim_base.specs.declared.judgement.Head.{Head}
use Rattle.faim_base.specs.declared.judgement.Verdict.TheVariants.{Taken}
use Rattle.faim_base.specs.Refusals.{e161, e162, f401, h101, i501, w301, w302}
use Rattle.host_ledger.specs.declared.config.Config.{Config}
use Rattle.host_ledger.specs.declared.entries.Entry.{Entry}
use Rattle.host_ledger.specs.Accounts.{account_of, endpoint_of, floor_of, is_served_at}
use Rattle.faim_model.specs.declared.decisions.Decision.{Decision}
use Rattle.faim_model.specs.declared.decisions.Decision.TheVariants.{New, Known, Differs, WrongSource}
use Rattle.host_ledger.specs.Sums.{balance, cycle, is_below_floor, moves_money}
use Rattle.faim_model.specs.Outputs.{sent_in_cycle}
use Rattle.faim_model.specs.Verdicts.{has_body, has_imad, is_customer, is_past, judged, judged_new, place_of, refused}
use Rattle.faim_model.specs.Lawful.{IsAccepted, times_posted}
use Rattle.faim_model.proofs.Imads.{bytes_equal, bytes_pass}
use Rattle.faim_model.proofs.Places.{none_with_body}

-- an identifier that isn't posted is found nowhere
unposted_by : (passes : Bool) (n posted : ℕ) (rest : Option ℕ) → posted + (if passes then 1 else 0) ≡ 0 → (posted ≡ 0 → rest ≡ None)
    → (if passes then Some n else rest) ≡ None
unposted_by true n posted rest none others = absurd (omega arith)
unposted_by false n posted rest none others = others (omega arith)

unposted : (imad : Imad) (es : List Entry) → times_posted imad es ≡ 0 → place_of (has_imad imad) es ≡ None
unposted imad [] none = refl
unposted imad (x ∷ es) none = unposted_by (has_imad imad x) _ (times_posted imad es) (place_of (has_imad imad) es) none (unposted imad es)

-- the tests that pass
some_known : {A : Type 0} (o : Option A) → IsSome o → is_none o ≡ false
some_known None known = absurd cc
some_known (Some a) known = refl

before_limit : (limit moment : ℕ) → moment < limit → nat_le limit moment ≡ false
before_limit limit moment early = grind (arith, nat_tests)

customer_passes : (is_one past : Bool) → (is_one ≡ true → past ≡ false) → is_one && past ≡ false
customer_passes true past early = early refl
customer_passes false past early = refl

bank_passes : (is_one past : Bool) → ((is_one ≡ true → ⊥) → past ≡ false) → not is_one && past ≡ false
bank_passes true past early = refl
bank_passes false past early = early (λ same. absurd cc)

not_less : (floor left : ℤ) → floor ≤ℤ left → int_lt left floor ≡ false
not_less floor left above = grind (arith, ints)

floor_passes : (moves : Bool) (floor left : ℤ) → (moves ≡ true → floor ≤ℤ left) → moves && int_lt left floor ≡ false
floor_passes true floor left above = not_less floor left (above refl)
floor_passes false floor left above = refl

-- the order of verdicts where no test refuses
all_pass : (current served stranger customer_late bank_late low full : Bool) (to : List ℕ) (number : ℕ)
    → current ≡ true → served ≡ true → stranger ≡ false → customer_late ≡ false → bank_late ≡ false → low ≡ false → full ≡ false
    → (if not current then refused h101
    else option_map_or refused None (
    if not served then refused e161
    else if stranger then refused e162
    else if customer_late then refused w301
    else if bank_late then refused w302
    else if low then refused f401
    else if full then refused i501
    else New (Taken to number))) ≡ New (Taken to number)
all_pass current served stranger customer_late bank_late low full to number a b c d e f g = rw (a, b, c, d, e, f, g) refl

is_new : (own : Bool) (known differs : Option ℕ) (rest : Decision) → own ≡ true → known ≡ None → differs ≡ None
    → (if not own then WrongSource else option_map_or Known known (option_map_or Differs differs rest)) ≡ rest
is_new own known differs rest is_own unknown fresh = rw (is_own, unknown, fresh) refl

new_taken : (c : Config) (older : List Entry) (h : Head) (moment : ℕ) (dest : List ℕ) (seq : ℕ) → IsAccepted c older h moment dest seq
    → judged_new c older h.imad.source moment h None ≡ New (Taken (endpoint_of c h.receiver) (sent_in_cycle c older (endpoint_of c h.receiver) + 1))
new_taken c older h moment dest seq a =
    let place : List ℕ = endpoint_of c h.receiver in
    let number : seq ≡ sent_in_cycle c older place + 1 = subst (λ (e : List ℕ). seq ≡ sent_in_cycle c older e + 1) a.output a.number in
    let few : sent_in_cycle c older place < 999_998 = omega (arith, number, a.kept) in
    all_pass (h.imad.date == cycle c older) (is_served_at c h.sender h.imad.source) (is_none (account_of c h.receiver))
    (is_customer h && is_past c older c.customer moment) (not (is_customer h) && is_past c older c.bank moment) (is_below_floor c older h)
    (nat_le 999_998 (sent_in_cycle c older place)) place (sent_in_cycle c older place + 1)
    (eq-eqb h.imad.date (cycle c older) a.current) a.sender (some_known (account_of c h.receiver) a.receiver)
    (customer_passes (is_customer h) (is_past c older c.customer moment)
    (λ code. before_limit (1440 * cycle c older + c.customer) moment (a.customers (bytes_equal h.code (codes "CTR") code))))
    (bank_passes (is_customer h) (is_past c older c.bank moment)
    (λ other. before_limit (1440 * cycle c older + c.bank) moment (a.banks (λ same. other (bytes_pass h.code (codes "CTR") same)))))
    (floor_passes (moves_money h) (floor_of c h.sender) (balance c older h.sender -ℤ pos h.amount) a.floor)
    (before_limit 999_998 (sent_in_cycle c older place) few)

pub allowed_taken : (c : Config) (older : List Entry) (h : Head) (body : List ℕ) (moment : ℕ) (dest : List ℕ) (seq : ℕ)
    → times_posted h.imad older ≡ 0 → IsAccepted c older h moment dest seq
    → judged c older h.imad.source moment h body None ≡ New (Taken dest seq)
allowed_taken c older h body moment dest seq unknown a =
    let none : place_of (has_imad h.imad) older ≡ None = unposted h.imad older unknown in
    is_new (bytes_eq h.imad.source h.imad.source) (place_of (has_body h.imad body) older) (place_of (has_imad h.imad) older)
    (judged_new c older h.imad.source moment h None) (bytes_pass h.imad.source h.imad.source refl) (none_with_body h.imad body older none) none
    ∙ new_taken c older h moment dest seq a
    ∙ ap (λ (e : List ℕ). New (Taken e (sent_in_cycle c older e + 1))) (sym a.output)
    ∙ ap (λ (n : ℕ). New (Taken dest n)) (sym a.number)
