-- What a text gives a bank as an output (docs/FORMATS.md, "What a bank takes").
use Rattle.std.specs.Prelude.{ℕ, ◌==◌, nat_lt, List, [], ◌∷◌, take, drop, codes, bytes_eq, slice_index, if◌then◌else◌, Option, Some, None, Result, Ok, Err}
use Rattle.std.specs.List.{find}
use Rattle.faim_base.specs.Numbers.{greatest_seq}
use Rattle.faim_base.specs.declared.ids.IdFault.{IdFault}
use Rattle.faim_base.specs.declared.ids.Omad.{Omad}
use Rattle.faim_base.specs.declared.ids.OutPos.{OutPos}
use Rattle.faim_tags.specs.Reading.{is_among}
use Rattle.faim_tags.specs.Spelling.{Tag}
use Rattle.faim_message.specs.declared.form.Form.TheVariants.{Output}
use Rattle.faim_message.specs.Decoded.{decoded}
use Rattle.faim_message.specs.Heads.{fixed_in}
use Rattle.faim_message.specs.Spelling.{Content, mark_in, marked_with, message_spelling}
use Rattle.bank_books.specs.declared.entries.BankOpening.{BankOpening}
use Rattle.faim_model.specs.Readings.{omad_in}
use Rattle.faim_model.specs.Steps.{date_in}
use Rattle.bank_turns.specs.AckTexts.{env_in}

-- an output: its position, its text with a blank as its mark, and the date that it goes on to where it ends a cycle
pub record Given : Type 0 where
  pub at : OutPos
  pub text : List ℕ
  pub next : Option ℕ

-- the status of an output
abbrev pub status_in : Content → ℕ
status_in m = slice_index (fixed_in m.tags 1100) 4

-- the star elements of a tag, none where there is no tag
abbrev pub stars_of : Option Tag → List (List ℕ)
stars_of None = []
stars_of (Some v) = v.stars

-- a date that is later than another
abbrev pub later_than : ℕ → Option ℕ → Option ℕ
later_than date None = None
later_than date (Some next) = if nat_lt date next then Some next else None

-- the date after a date that one element names
abbrev pub next_date : ℕ → List (List ℕ) → Option ℕ
next_date date (star ∷ []) = if bytes_eq (take 5 star) (codes "NEXT ") then later_than date (date_in (drop 5 star)) else None
next_date date stars = None

-- the position that an output names
abbrev pub position_of : Omad → OutPos
position_of omad = record { date = omad.date; seq = omad.seq }

-- an output that ends a cycle, where a date is named
abbrev pub ends_at : Content → Omad → Option ℕ → Option Given
ends_at m omad None = None
ends_at m omad (Some date) = Some (record { at = position_of omad; text = message_spelling (marked_with 32 m); next = Some date })

-- an output that hands on a message: its number isn't the last
abbrev pub hands_on : Content → Omad → Option Given
hands_on m omad =
    if nat_lt omad.seq greatest_seq then Some (record { at = position_of omad; text = message_spelling (marked_with 32 m); next = None })
    else None

-- an output by its status: E ends a cycle
abbrev pub given_at : Content → Omad → Option Given
given_at m omad =
    if status_in m == 69 then ends_at m omad (next_date omad.date (stars_of (find (λ v. v.no == 9000) m.tags)))
    else hands_on m omad

-- an output that is the bank's own, with a blank, P or R as its mark
abbrev pub given_by : BankOpening → Content → Result Omad IdFault → Option Given
given_by o m (Err fault) = None
given_by o m (Ok omad) =
    if bytes_eq omad.dest o.endpoint
    then (if is_among (codes " PR") (mark_in Output m.tags) then given_at m omad else None)
    else None

-- an output: it must be of the bank's test or production line
abbrev pub given_in : BankOpening → Option Content → Option Given
given_in o None = None
given_in o (Some m) = if env_in m == o.env then given_by o m (omad_in m) else None

-- what a text gives a bank, none where it is strange to it
abbrev pub output_given : BankOpening → List ℕ → Option Given
output_given o payload = given_in o (decoded Output payload)
