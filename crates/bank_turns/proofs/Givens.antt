-- The date of an output that a text gives a bank may stand with its position.
use Rattle.std.proofs.Common.{◌≡◌, refl, subst, ℕ, ◌<◌, ◌≤◌, ◌==◌, Bool, true, false, List, [], ◌∷◌, Option, Some, None, arith}
use Rattle.std.specs.Prelude.{nat_lt, take, drop, codes, bytes_eq, if◌then◌else◌, Result, Ok, Err}
use Rattle.std.specs.List.{find}
use Rattle.std.proofs.lemmas.Bool.{ltb-true}
use Rattle.faim_base.specs.Numbers.{IsDay, greatest_seq}
use Rattle.faim_base.specs.declared.ids.IdFault.{IdFault}
use Rattle.faim_base.specs.declared.ids.Omad.{Omad}
use Rattle.faim_tags.specs.Reading.{is_among}
use Rattle.faim_message.specs.declared.form.Form.TheVariants.{Output}
use Rattle.faim_message.specs.Decoded.{decoded}
use Rattle.faim_message.specs.Spelling.{Content, mark_in, marked_with, message_spelling}
use Rattle.bank_books.specs.declared.entries.BankOpening.{BankOpening}
use Rattle.bank_books.specs.Lawful.{MayGoOn}
use Rattle.faim_model.specs.Readings.{omad_in}
use Rattle.faim_model.specs.Steps.{date_in}
use Rattle.faim_model.proofs.Asked.{date_found}
use Rattle.bank_turns.specs.AckTexts.{env_in}
use Rattle.bank_turns.specs.OutputTexts.{Given, ends_at, given_at, given_by, given_in, hands_on, later_than, next_date, output_given, position_of, stars_of, status_in}

-- where an output is given, its next date may stand with its position
abbrev Goes : Option Given → Type 0
Goes found = (g : Given) → found ≡ Some g → MayGoOn g.at g.next

none_goes : Goes None
none_goes g is = absurd cc

-- a later date that was found is a day after the other
later_found : (date : ℕ) (found : Option ℕ) (next : ℕ) → ((day : ℕ) → found ≡ Some day → IsDay day) → later_than date found ≡ Some next → (date < next) × IsDay next
later_found date None next days is = absurd cc
later_found date (Some day) next days is = go (nat_lt date day) refl is
  where
    go : (b : Bool) → nat_lt date day ≡ b → (if b then Some day else None) ≡ Some next → (date < next) × IsDay next
    go true later found =
        let same : day ≡ next = cc in
        subst (λ (d : ℕ). (date < d) × IsDay d) same (ltb-true date day later, days day refl)
    go false later found = absurd cc

next_found : (date : ℕ) (stars : List (List ℕ)) (next : ℕ) → next_date date stars ≡ Some next → (date < next) × IsDay next
next_found date [] next is = absurd cc
next_found date (star ∷ second ∷ more) next is = absurd cc
next_found date (star ∷ []) next is = go (bytes_eq (take 5 star) (codes "NEXT ")) is
  where
    go : (b : Bool) → (if b then later_than date (date_in (drop 5 star)) else None) ≡ Some next → (date < next) × IsDay next
    go true found = later_found date (date_in (drop 5 star)) next (λ day there. (date_found (drop 5 star) day there).1) found
    go false found = absurd cc

ends_goes : (m : Content) (omad : Omad) (found : Option ℕ) → ((next : ℕ) → found ≡ Some next → (omad.date < next) × IsDay next) → Goes (ends_at m omad found)
ends_goes m omad None later g is = absurd cc
ends_goes m omad (Some date) later g is =
    let same : record { at = position_of omad; text = message_spelling (marked_with 32 m); next = Some date } ≡ g = cc in
    subst (λ (h : Given). MayGoOn h.at h.next) same (later date refl)

-- an output as one that hands on a message
abbrev handed : Content → Omad → Given
handed m omad = record { at = position_of omad; text = message_spelling (marked_with 32 m); next = None }

hands_goes : (m : Content) (omad : Omad) → Goes (hands_on m omad)
hands_goes m omad = go (nat_lt omad.seq greatest_seq) refl
  where
    go : (b : Bool) → nat_lt omad.seq greatest_seq ≡ b → Goes (if b then Some (handed m omad) else None)
    go true below g is =
        let same : handed m omad ≡ g = cc in
        let less : omad.seq < 999_999 = ltb-true omad.seq greatest_seq below in
        let few : omad.seq ≤ 999_998 = omega (arith, less) in
        subst (λ (h : Given). MayGoOn h.at h.next) same few
    go false below g is = absurd cc

-- the elements of the tag that names a date
abbrev stars_in : Content → List (List ℕ)
stars_in m = stars_of (find (λ v. v.no == 9000) m.tags)

given_goes : (m : Content) (omad : Omad) → Goes (given_at m omad)
given_goes m omad = go (status_in m == 69)
  where
    go : (b : Bool) → Goes (if b then ends_at m omad (next_date omad.date (stars_in m)) else hands_on m omad)
    go true = ends_goes m omad (next_date omad.date (stars_in m)) (next_found omad.date (stars_in m))
    go false = hands_goes m omad

given_by_goes : (o : BankOpening) (m : Content) (read : Result Omad IdFault) → Goes (given_by o m read)
given_by_goes o m (Err fault) = none_goes
given_by_goes o m (Ok omad) = go (bytes_eq omad.dest o.endpoint)
  where
    marked : (b : Bool) → Goes (if b then given_at m omad else None)
    marked true = given_goes m omad
    marked false = none_goes

    go : (b : Bool) → Goes (if b then (if is_among (codes " PR") (mark_in Output m.tags) then given_at m omad else None) else None)
    go true = marked (is_among (codes " PR") (mark_in Output m.tags))
    go false = none_goes

given_in_goes : (o : BankOpening) (found : Option Content) → Goes (given_in o found)
given_in_goes o None = none_goes
given_in_goes o (Some m) = go (env_in m == o.env)
  where
    go : (b : Bool) → Goes (if b then given_by o m (omad_in m) else None)
    go true = given_by_goes o m (omad_in m)
    go false = none_goes

pub output_goes : (o : BankOpening) (payload : List ℕ) (g : Given) → output_given o payload ≡ Some g → MayGoOn g.at g.next
output_goes o payload = given_in_goes o (decoded Output payload)
