-- What a text tells a bank as an acknowledgement (docs/FORMATS.md, "What a bank takes").
use Rattle.std.specs.Prelude.{ℕ, ◌==◌, Bool, List, bytes_eq, slice_index, if◌then◌else◌, Option, Some, None, Result, Ok, Err}
use Rattle.faim_base.specs.declared.ids.IdFault.{IdFault}
use Rattle.faim_base.specs.declared.ids.Imad.{Imad}
use Rattle.faim_base.specs.declared.ids.Omad.{Omad}
use Rattle.faim_base.specs.declared.judgement.Verdict.{Verdict}
use Rattle.faim_base.specs.declared.judgement.Verdict.TheVariants.{Taken}
use Rattle.faim_tags.specs.Reading.{is_among}
use Rattle.faim_message.specs.declared.form.Form.TheVariants.{Ack}
use Rattle.faim_message.specs.Decoded.{decoded}
use Rattle.faim_message.specs.Heads.{fixed_in}
use Rattle.faim_message.specs.Spelling.{Content, numbers}
use Rattle.bank_books.specs.declared.entries.BankOpening.{BankOpening}
use Rattle.faim_model.specs.Readings.{imad_in, omad_in, refused_as}

-- the verdict that came for an IMAD
pub record Told : Type 0 where
  pub imad : Imad
  pub verdict : Verdict

-- the test or production code of a message of a host
abbrev pub env_in : Content → ℕ
env_in m = slice_index (fixed_in m.tags 1100) 2

-- a tag with this number is there
abbrev pub has_tag : Content → ℕ → Bool
has_tag m n = is_among (numbers m.tags) n

-- taken, with this output, where it is of the IMAD's date
abbrev pub taken_under : Imad → Result Omad IdFault → Option Verdict
taken_under imad (Err fault) = None
taken_under imad (Ok o) = if o.date == imad.date then Some (Taken o.dest o.seq) else None

-- the verdict on an IMAD: by an output or by a refusal, and by one of them alone
abbrev pub verdict_on : Imad → Content → Option Verdict
verdict_on imad m =
    if has_tag m 1120
    then (if has_tag m 1130 then None else taken_under imad (omad_in m))
    else (if has_tag m 1130 then refused_as (fixed_in m.tags 1130) else None)

-- an IMAD with the verdict that came for it
abbrev pub told_of : Imad → Option Verdict → Option Told
told_of imad None = None
told_of imad (Some verdict) = Some (record { imad = imad; verdict = verdict })

-- what is told of an identifier: it must be an IMAD of the bank's own
abbrev pub told_by : BankOpening → Content → Result Imad IdFault → Option Told
told_by o m (Err fault) = None
told_by o m (Ok imad) = if bytes_eq imad.source o.endpoint then told_of imad (verdict_on imad m) else None

-- what an acknowledgement tells: it must be of the bank's test or production line
abbrev pub told_in : BankOpening → Option Content → Option Told
told_in o None = None
told_in o (Some m) = if env_in m == o.env then told_by o m (imad_in m) else None

-- what a text tells a bank, none where it is strange to it
abbrev pub ack_told : BankOpening → List ℕ → Option Told
ack_told o payload = told_in o (decoded Ack payload)
