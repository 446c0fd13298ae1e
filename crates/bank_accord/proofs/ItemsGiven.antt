-- What an output of a host gives a bank: its item's position, the item's text with a blank as its mark, and the date that the item goes on to.
use Rattle.std.proofs.Common.{◌≡◌, refl, sym, ap, ◌∙◌, ℕ, ◌==◌, Bool, true, false, List, Option, Some, None, IfSome}
use Rattle.std.specs.Prelude.{codes, nat_lt, bytes_eq, if◌then◌else◌, Result, Ok, Err}
use Rattle.std.specs.List.{find}
use Rattle.faim_base.specs.declared.ids.IdFault.{IdFault}
use Rattle.faim_base.specs.declared.ids.Omad.{Omad}
use Rattle.faim_base.specs.Calendar.{date_text}
use Rattle.faim_base.specs.Ids.{stamp_of}
use Rattle.faim_base.specs.Numbers.{IsDay, greatest_seq}
use Rattle.faim_tags.specs.Reading.{is_among}
use Rattle.faim_message.specs.declared.form.Form.TheVariants.{Output}
use Rattle.faim_message.specs.Spelling.{Content, mark_in, marked_with, message_spelling}
use Rattle.host_ledger.specs.declared.config.Config.{Config}
use Rattle.host_ledger.specs.declared.entries.Entry.{Entry}
use Rattle.host_ledger.specs.declared.entries.Entry.TheVariants.{Posted, Roll}
use Rattle.host_ledger.specs.Soundness.{IsConfig}
use Rattle.host_ledger.specs.Sums.{moves_money}
use Rattle.bank_books.specs.declared.entries.BankOpening.{BankOpening}
use Rattle.faim_model.specs.Outputs.{Item}
use Rattle.faim_model.specs.Lawful.{moment_of}
use Rattle.faim_model.specs.Deliveries.{output_message}
use Rattle.faim_model.specs.Readings.{omad_in}
use Rattle.faim_model.specs.Steps.{date_in}
use Rattle.faim_model.proofs.Asked.{date_there}
use Rattle.bank_turns.specs.AckTexts.{env_in}
use Rattle.bank_turns.specs.OutputTexts.{Given, ends_at, given_at, given_by, given_in, hands_on, later_than, next_date, position_of, stars_of, status_in}
use Rattle.bank_accord.specs.Accord.{output_text}
use Rattle.bank_accord.proofs.HostRanges.{IsGiven, given_line, next_of}
use Rattle.bank_accord.proofs.NamedOutputs.{SameOutput, name_read}

-- what is given has the text of a message with a blank as its mark, a position and a next date
abbrev Has : Content → Omad → Option ℕ → Given → Type 0
Has m omad next g = record { at = position_of omad; text = message_spelling (marked_with 32 m); next = next } ≡ g

hands_has : (m : Content) (omad : Omad) (g : Given) → hands_on m omad ≡ Some g → Has m omad None g
hands_has m omad g = go (nat_lt omad.seq greatest_seq)
  where
    go : (b : Bool) → (if b then Some (record { at = position_of omad; text = message_spelling (marked_with 32 m); next = None }) else None) ≡ Some g
        → Has m omad None g
    go true gives = cc
    go false gives = absurd cc

ends_has : (m : Content) (omad : Omad) (date : ℕ) (g : Given) → ends_at m omad (later_than omad.date (Some date)) ≡ Some g → Has m omad (Some date) g
ends_has m omad date g = go (nat_lt omad.date date)
  where
    go : (b : Bool) → ends_at m omad (if b then Some date else None) ≡ Some g → Has m omad (Some date) g
    go true gives = cc
    go false gives = absurd cc

-- the elements of the tag that names a date
abbrev stars_in : Content → List (List ℕ)
stars_in m = stars_of (find (λ v. v.no == 9000) m.tags)

-- what is given by a status: E ends a cycle
at_status : (m : Content) (omad : Omad) (b : Bool) → (status_in m == 69) ≡ b
    → given_at m omad ≡ (if b then ends_at m omad (next_date omad.date (stars_in m)) else hands_on m omad)
at_status m omad b is = ap (λ (ends : Bool). if ends then ends_at m omad (next_date omad.date (stars_in m)) else hands_on m omad) is

no_end : (money : Bool) → ((if money then 78 else 83) == 69) ≡ false
no_end true = refl
no_end false = refl

-- what the message of an item gives: an end of a cycle goes on to its date, and a message hands on
given_has : (env : ℕ) (e : List ℕ) (i : Item) (x : Entry) (mark : ℕ) (omad : Omad) (g : Given) → IfSome (next_of x) IsDay
    → given_at (output_message env e (record i { entry = x }) mark) omad ≡ Some g → Has (output_message env e (record i { entry = x }) mark) omad (next_of x) g
given_has env e i (Posted h body resent moment v) mark omad g day gives =
    let m = output_message env e (record i { entry = Posted h body resent moment v }) mark in
    hands_has m omad g (sym (at_status m omad false (no_end (moves_money h))) ∙ gives)
given_has env e i (Roll moment date) mark omad g day gives =
    let m = output_message env e (record i { entry = Roll moment date }) mark in
    let later : later_than omad.date (date_in (date_text date)) ≡ later_than omad.date (Some date) =
    ap (later_than omad.date) (date_there (date_text date) date refl day) in
    ends_has m omad date g (sym (ap (ends_at m omad) later) ∙ gives)

-- what a message gives is what it gives at the output that it names
record GivesAt (m : Content) (g : Given) : Type 0 where
  omad : Omad
  named : omad_in m ≡ Ok omad
  gives : given_at m omad ≡ Some g

gives_at : (o : BankOpening) (m : Content) (g : Given) → given_in o (Some m) ≡ Some g → GivesAt m g
gives_at o m g = at_env (env_in m == o.env)
  where
    at_mark : (b : Bool) (omad : Omad) → omad_in m ≡ Ok omad → (if b then given_at m omad else None) ≡ Some g → GivesAt m g
    at_mark true omad named gives = record { omad = omad; named = named; gives = gives }
    at_mark false omad named gives = absurd cc

    at_line : (b : Bool) (omad : Omad) → omad_in m ≡ Ok omad
        → (if b then (if is_among (codes " PR") (mark_in Output m.tags) then given_at m omad else None) else None) ≡ Some g → GivesAt m g
    at_line true omad named gives = at_mark (is_among (codes " PR") (mark_in Output m.tags)) omad named gives
    at_line false omad named gives = absurd cc

    at_name : (read : Result Omad IdFault) → omad_in m ≡ read → given_by o m read ≡ Some g → GivesAt m g
    at_name (Err fault) named gives = absurd cc
    at_name (Ok omad) named gives = at_line (bytes_eq omad.dest o.endpoint) omad named gives

    at_env : (b : Bool) → (if b then given_by o m (omad_in m) else None) ≡ Some g → GivesAt m g
    at_env true gives = at_name (omad_in m) refl gives
    at_env false gives = absurd cc

-- what is given is an item: its position, its text and its next date
pub record ShowsItem (c : Config) (e : List ℕ) (i : Item) (g : Given) : Type 0 where
  pub at : g.at ≡ i.at
  pub text : g.text ≡ output_text c e i
  pub next : g.next ≡ next_of i.entry

-- the output that an item is
abbrev omad_of : List ℕ → Item → Omad
omad_of e i = record { date = i.at.date; dest = e; seq = i.at.seq; stamp = stamp_of (moment_of i.entry) }

-- an item's message with any mark gives the item, if anything
pub item_given : (c : Config) (e : List ℕ) (i : Item) (mark : ℕ) (o : BankOpening) (g : Given) → IsConfig c → IsGiven c e i
    → given_in o (Some (output_message c.env e i mark)) ≡ Some g → ShowsItem c e i g
item_given c e i mark o g sound is gives =
    let m = output_message c.env e i mark in
    let by = gives_at o m g gives in
    let same : SameOutput by.omad (omad_of e i) =
    name_read (omad_of e i) by.omad is.position.day (given_line c e i sound is) is.position.number by.named in
    let has = given_has c.env e i i.entry mark by.omad g is.next by.gives in
    let at : position_of by.omad ≡ i.at = (λ k. record { date = same.date k; seq = same.seq k }) in
    record {
      at = ap (λ (h : Given). h.at) (sym has) ∙ at;
      text = ap (λ (h : Given). h.text) (sym has);
      next = ap (λ (h : Given). h.next) (sym has);
    }
