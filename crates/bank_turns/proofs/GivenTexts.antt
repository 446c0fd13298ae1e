-- The text that is kept of an output gives that output again.
use Rattle.std.proofs.Common.{◌≡◌, ◌≢◌, refl, sym, ap, ◌∙◌, subst, ℕ, ◌==◌, Bool, true, false, set, List, Option, Some, None, arith}
use Rattle.std.specs.Prelude.{codes, nat_lt, bytes_eq, if◌then◌else◌, IfSome, Result, Ok, Err}
use Rattle.std.specs.List.{find}
use Rattle.std.proofs.lemmas.List.{set-set}
use Rattle.faim_base.specs.Ids.{read_omad}
use Rattle.faim_base.specs.Numbers.{IsDay, greatest_seq}
use Rattle.faim_base.specs.Ranges.{IsPosition}
use Rattle.faim_base.specs.declared.ids.IdFault.{IdFault}
use Rattle.faim_base.specs.declared.ids.Omad.{Omad}
use Rattle.faim_base.specs.declared.ids.OutPos.{OutPos}
use Rattle.faim_tags.specs.Reading.{is_among}
use Rattle.faim_tags.specs.Spelling.{Tag}
use Rattle.faim_message.specs.declared.form.Form.{Form}
use Rattle.faim_message.specs.declared.form.Form.TheVariants.{Output}
use Rattle.faim_message.specs.Decoded.{decoded}
use Rattle.faim_message.specs.Forms.{first_of}
use Rattle.faim_message.specs.Heads.{fixed_of}
use Rattle.faim_message.specs.Spelling.{Content, IsMessage, Spells, leads, mark_byte, mark_in, mark_place, marked_with, message_spelling}
use Rattle.faim_message.proofs.Decodings.{decoded_spelled, spelled_as}
use Rattle.faim_message.proofs.Duplication.{IsMessage-marked}
use Rattle.faim_message.proofs.MarkBytes.{mark_alone}
use Rattle.faim_message.proofs.Submissions.{new_mark}
use Rattle.host_ledger.specs.Ranges.{IsBody}
use Rattle.bank_books.specs.declared.entries.BankOpening.{BankOpening}
use Rattle.bank_books.specs.Lawful.{MayGoOn}
use Rattle.faim_model.specs.Readings.{omad_in}
use Rattle.bank_turns.specs.AckTexts.{env_in}
use Rattle.bank_turns.specs.OutputTexts.{Given, ends_at, given_at, given_by, given_in, hands_on, next_date, output_given, position_of, stars_of, status_in}
use Rattle.bank_turns.proofs.DraftTexts.{spelling_fits}
use Rattle.bank_turns.proofs.Givens.{output_goes}
use Rattle.bank_turns.proofs.Looked.{omad_named, others_found, others_stay}

-- an output with this text
abbrev with_text : Omad → Option ℕ → List ℕ → Given
with_text omad next text = record { at = position_of omad; text = text; next = next }

-- what is given of an output has its position and its text with a blank as its mark
abbrev Shows : Content → Omad → Given → Type 0
Shows m omad g = (g.at ≡ position_of omad) × (g.text ≡ message_spelling (marked_with 32 m))

ends_shows : (m : Content) (omad : Omad) (next : Option ℕ) (g : Given) → ends_at m omad next ≡ Some g → Shows m omad g
ends_shows m omad None g gives = absurd cc
ends_shows m omad (Some date) g gives =
    let same : with_text omad (Some date) (message_spelling (marked_with 32 m)) ≡ g = cc in
    subst (λ (h : Given). Shows m omad h) same (refl, refl)

hands_shows : (m : Content) (omad : Omad) (g : Given) → hands_on m omad ≡ Some g → Shows m omad g
hands_shows m omad g = go (nat_lt omad.seq greatest_seq)
  where
    go : (b : Bool) → (if b then Some (with_text omad None (message_spelling (marked_with 32 m))) else None) ≡ Some g → Shows m omad g
    go true gives =
        let same : with_text omad None (message_spelling (marked_with 32 m)) ≡ g = cc in
        subst (λ (h : Given). Shows m omad h) same (refl, refl)
    go false gives = absurd cc

-- the elements of the tag that names a date
abbrev stars_in : Content → List (List ℕ)
stars_in m = stars_of (find (λ v. v.no == 9000) m.tags)

given_shows : (m : Content) (omad : Omad) (g : Given) → given_at m omad ≡ Some g → Shows m omad g
given_shows m omad g = go (status_in m == 69)
  where
    go : (b : Bool) → (if b then ends_at m omad (next_date omad.date (stars_in m)) else hands_on m omad) ≡ Some g → Shows m omad g
    go true = ends_shows m omad (next_date omad.date (stars_in m)) g
    go false = hands_shows m omad g

-- a message that gives an output
record GivenBy (o : BankOpening) (m : Content) (g : Given) : Type 0 where
  omad : Omad
  env : (env_in m == o.env) ≡ true
  named : omad_in m ≡ Ok omad
  own : bytes_eq omad.dest o.endpoint ≡ true
  gives : given_at m omad ≡ Some g

given_from : (o : BankOpening) (m : Content) (g : Given) → given_in o (Some m) ≡ Some g → GivenBy o m g
given_from o m g = at_env (env_in m == o.env) refl
  where
    at_mark : (b : Bool) (omad : Omad) → (if b then given_at m omad else None) ≡ Some g → given_at m omad ≡ Some g
    at_mark true omad gives = gives
    at_mark false omad gives = absurd cc

    at_line : (b : Bool) (omad : Omad) → (env_in m == o.env) ≡ true → omad_in m ≡ Ok omad → bytes_eq omad.dest o.endpoint ≡ b
        → (if b then (if is_among (codes " PR") (mark_in Output m.tags) then given_at m omad else None) else None) ≡ Some g → GivenBy o m g
    at_line true omad env named own gives =
        record {
          omad = omad;
          env = env;
          named = named;
          own = own;
          gives = at_mark (is_among (codes " PR") (mark_in Output m.tags)) omad gives;
        }
    at_line false omad env named own gives = absurd cc

    at_name : (read : Result Omad IdFault) → (env_in m == o.env) ≡ true → omad_in m ≡ read → given_by o m read ≡ Some g → GivenBy o m g
    at_name (Err fault) env named gives = absurd cc
    at_name (Ok omad) env named gives = at_line (bytes_eq omad.dest o.endpoint) omad env named refl gives

    at_env : (b : Bool) → (env_in m == o.env) ≡ b → (if b then given_by o m (omad_in m) else None) ≡ Some g → GivenBy o m g
    at_env true env gives = at_name (omad_in m) env refl gives
    at_env false env gives = absurd cc

-- an output with a blank as its mark shows all that it showed
record SameShown (m w : Content) : Type 0 where
  env : env_in w ≡ env_in m
  status : status_in w ≡ status_in m
  omad : omad_in w ≡ omad_in m
  stars : stars_in w ≡ stars_in m
  text : message_spelling (marked_with 32 w) ≡ message_spelling (marked_with 32 m)
  blank : mark_in Output w.tags ≡ 32

shown_blank : (m : Content) → IsMessage m → m.form ≡ Output → SameShown m (marked_with 32 m)
shown_blank m sound is =
    let place : ℕ = mark_place m.form in
    let at : place ≡ 3 = ap mark_place is in
    let led : leads 1100 m.tags ≡ true = subst (λ (form : Form). leads (first_of form) m.tags ≡ true) is sound.tags_sound.led in
    let apart : (i : ℕ) → i ≢ 3 → i ≢ place = λ i other. subst (λ (k : ℕ). i ≢ k) (sym at) other in
    record {
      env = others_stay 1100 m.tags place 32 2 led (apart 2 (λ wrong. absurd (omega (arith, wrong))));
      status = others_stay 1100 m.tags place 32 4 led (apart 4 (λ wrong. absurd (omega (arith, wrong))));
      omad = ap (λ (v : Option Tag). read_omad (fixed_of v)) (others_found 1100 1120 m.tags place 32 led refl);
      stars = ap stars_of (others_found 1100 9000 m.tags place 32 led refl);
      text = mark_alone (marked_with 32 m) 32 (IsMessage-marked m 32 sound refl)
          ∙ ap (λ (text : List ℕ). set text (mark_byte m.form) 32) (mark_alone m 32 sound)
          ∙ set-set (message_spelling m) (mark_byte m.form) 32 32 ∙ sym (mark_alone m 32 sound);
      blank = ap (λ (form : Form). mark_in form (marked_with 32 m).tags) (sym is) ∙ new_mark m 32 sound;
    }

ends_same : (m w : Content) (omad : Omad) (next : Option ℕ) → SameShown m w → ends_at w omad next ≡ ends_at m omad next
ends_same m w omad None same = refl
ends_same m w omad (Some date) same =
    ap (λ (text : List ℕ). Some (with_text omad (Some date) text)) same.text

hands_same : (m w : Content) (omad : Omad) → SameShown m w → hands_on w omad ≡ hands_on m omad
hands_same m w omad same =
    ap (λ (text : List ℕ). if nat_lt omad.seq greatest_seq then Some (with_text omad None text) else None) same.text

given_same : (m w : Content) (omad : Omad) → SameShown m w → given_at w omad ≡ given_at m omad
given_same m w omad same =
    ap (λ (s : ℕ). if s == 69 then ends_at w omad (next_date omad.date (stars_in w)) else hands_on w omad) same.status
    ∙ go (status_in m == 69)
  where
    go : (b : Bool) → (if b then ends_at w omad (next_date omad.date (stars_in w)) else hands_on w omad)
        ≡ (if b then ends_at m omad (next_date omad.date (stars_in m)) else hands_on m omad)
    go true =
        ap (λ (stars : List (List ℕ)). ends_at w omad (next_date omad.date stars)) same.stars
        ∙ ends_same m w omad (next_date omad.date (stars_in m)) same
    go false = hands_same m w omad same

-- so it gives the same
given_again : (o : BankOpening) (m w : Content) (g : Given) → SameShown m w → GivenBy o m g → given_in o (Some w) ≡ Some g
given_again o m w g same by =
    let env : (env_in w == o.env) ≡ true = ap (λ (n : ℕ). n == o.env) same.env ∙ by.env in
    let named : omad_in w ≡ Ok by.omad = same.omad ∙ by.named in
    let gives : given_at w by.omad ≡ Some g = given_same m w by.omad same ∙ by.gives in
    ap (λ (b : Bool). if b then given_by o w (omad_in w) else None) env
    ∙ ap (given_by o w) named
    ∙ ap (λ (b : Bool). if b then (if is_among (codes " PR") (mark_in Output w.tags) then given_at w by.omad else None) else None) by.own
    ∙ ap (λ (mark : ℕ). if is_among (codes " PR") mark then given_at w by.omad else None) same.blank
    ∙ gives

-- what is kept of an output that a text gives
pub record KeepsOutput (o : BankOpening) (m : Content) (g : Given) : Type 0 where
  pub blank : decoded Output g.text ≡ Some (marked_with 32 m)
  pub again : output_given o g.text ≡ Some g
  pub position : IsPosition g.at
  pub body : IsBody g.text

message_keeps : (o : BankOpening) (text : List ℕ) (m : Content) (g : Given) → decoded Output text ≡ Some m
    → given_in o (Some m) ≡ Some g → KeepsOutput o m g
message_keeps o text m g found given =
    let h = decoded_spelled Output text m found in
    let by = given_from o m g given in
    let shows = given_shows m by.omad g by.gives in
    let is = omad_named m.tags by.omad h.0.sound.tags_sound.each by.named in
    let spells : Spells (marked_with 32 m) g.text = record { sound = IsMessage-marked m 32 h.0.sound refl; spelled = shows.1 } in
    let blank = spelled_as Output g.text (marked_with 32 m) spells h.1 in
    record {
      blank = blank;
      again = ap (given_in o) blank ∙ given_again o m (marked_with 32 m) g (shown_blank m h.0.sound h.1) by;
      position = subst IsPosition (sym shows.0) (record { day = is.day; number = is.number });
      body = spelling_fits (marked_with 32 m) g.text spells;
    }

pub output_keeps : (o : BankOpening) (text : List ℕ) (g : Given) → output_given o text ≡ Some g
    → (m : Content) × (decoded Output text ≡ Some m) × KeepsOutput o m g
output_keeps o text g = go (decoded Output text) refl
  where
    go : (found : Option Content) → decoded Output text ≡ found → given_in o found ≡ Some g
        → (m : Content) × (decoded Output text ≡ Some m) × KeepsOutput o m g
    go None is given = absurd cc
    go (Some m) is given = (m, is, message_keeps o text m g is given)

-- its next date is a day
next_is_day : (at : OutPos) (next : Option ℕ) → MayGoOn at next → IfSome next IsDay
next_is_day at None goes = tt
next_is_day at (Some date) goes = goes.1

pub output_next : (o : BankOpening) (text : List ℕ) (g : Given) → output_given o text ≡ Some g → IfSome g.next IsDay
output_next o text g given = next_is_day g.at g.next (output_goes o text g given)

pub given_is_again : (o : BankOpening) (text : List ℕ) (g : Given) → output_given o text ≡ Some g → output_given o g.text ≡ Some g
given_is_again o text g given = (output_keeps o text g given).2.again

pub given_is_blank : (o : BankOpening) (text : List ℕ) (m : Content) (g : Given) → decoded Output text ≡ Some m → output_given o text ≡ Some g
    → decoded Output g.text ≡ Some (marked_with 32 m)
given_is_blank o text m g found given = (message_keeps o text m g found (sym (ap (given_in o) found) ∙ given)).blank
