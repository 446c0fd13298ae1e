-- The texts of message identifiers (docs/FORMATS.md, "Identifiers").
use Rattle.std.specs.Prelude.{ℕ, ◌/◌, ◌%◌, ◌==◌, ◌&&◌, ◌||◌, nat_le, nat_lt, Bool, List, ◌++◌, take, drop, codes, bytes_eq, Option, Some, None, ok_or, Result, Ok, Err, if◌then◌else◌}
use Rattle.std.specs.List.{list_all}
use Rattle.faim_base.specs.Text.{is_digit, read_endpoint}
use Rattle.faim_base.specs.Digits.{number_of, padded, read_seq}
use Rattle.faim_base.specs.Calendar.{read_date, date_text, civil_of, days_in_month}
use Rattle.faim_base.specs.declared.ids.Imad.{Imad}
use Rattle.faim_base.specs.declared.ids.Omad.{Omad}
use Rattle.faim_base.specs.declared.ids.OutPos.{OutPos}
use Rattle.faim_base.specs.declared.ids.Stamp.{Stamp}
use Rattle.faim_base.specs.declared.ids.IdFault.{IdFault}
use Rattle.faim_base.specs.declared.ids.IdFault.TheVariants.{BadDate, BadSource, BadSeq, BadStamp, BadApplication}

infixl 10 ◌>>=◌
abbrev pub ◌>>=◌ : {A B E : Type 0} → Result A E → (A → Result B E) → Result B E
(Ok x) >>= f = f x
(Err e) >>= f = Err e

-- 22 bytes: date, source, number
abbrev pub imad_text : Imad → List ℕ
imad_text i = date_text i.date ++ i.source ++ padded 6 i.seq

-- the IMAD of 22 bytes, or the first part that isn't one
abbrev pub read_imad : List ℕ → Result Imad IdFault
read_imad text = do
  d ← ok_or (read_date (take 8 text)) BadDate
  e ← ok_or (read_endpoint (take 8 (drop 8 text))) BadSource
  n ← ok_or (read_seq (drop 16 text)) BadSeq
  Ok (record { date = d; source = e; seq = n })

-- 14 bytes: date, number
abbrev pub position_text : OutPos → List ℕ
position_text p = date_text p.date ++ padded 6 p.seq

-- the order of positions: by date, then number
abbrev pub is_up_to : OutPos → OutPos → Bool
is_up_to p q = nat_lt p.date q.date || ((p.date == q.date) && nat_le p.seq q.seq)

abbrev pub position_of : Option ℕ → Option ℕ → Option OutPos
position_of (Some d) (Some n) = Some (record { date = d; seq = n })
position_of d n = None

abbrev pub read_position : List ℕ → Option OutPos
read_position text = position_of (read_date (take 8 text)) (read_seq (drop 8 text))

-- month 1 to 12, a day of the month, with 29 for February, hour and minute
abbrev pub is_stamp : Stamp → Bool
is_stamp s = nat_le 1 s.month && (nat_le s.month 12 && (nat_le 1 s.day && (nat_le s.day (days_in_month 2000 s.month) && (nat_le s.hour 23 && nat_le s.minute 59))))

-- eight bytes MMDDHHMM
abbrev pub stamp_text : Stamp → List ℕ
stamp_text s = padded 2 s.month ++ padded 2 s.day ++ padded 2 s.hour ++ padded 2 s.minute

-- four numbers of two digits
abbrev pub stamp_in : List ℕ → Stamp
stamp_in text = record {
  month = number_of (take 2 text);
  day = number_of (take 2 (drop 2 text));
  hour = number_of (take 2 (drop 4 text));
  minute = number_of (drop 6 text);
}

abbrev pub read_stamp : List ℕ → Option Stamp
read_stamp text = if list_all is_digit text && is_stamp (stamp_in text) then Some (stamp_in text) else None

-- the stamp of a moment
abbrev pub stamp_of : ℕ → Stamp
stamp_of moment = record {
  month = (civil_of (moment / 1440)).month;
  day = (civil_of (moment / 1440)).day;
  hour = moment % 1440 / 60;
  minute = moment % 60;
}

-- the application that every stamp names
abbrev pub application : List ℕ
application = codes "FAIM"

-- 34 bytes: date, destination, number, stamp, application
abbrev pub omad_text : Omad → List ℕ
omad_text o = date_text o.date ++ o.dest ++ padded 6 o.seq ++ stamp_text o.stamp ++ application

-- the OMAD of 34 bytes, or the first part that isn't one
abbrev pub read_omad : List ℕ → Result Omad IdFault
read_omad text = do
  d ← ok_or (read_date (take 8 text)) BadDate
  e ← ok_or (read_endpoint (take 8 (drop 8 text))) BadSource
  n ← ok_or (read_seq (take 6 (drop 16 text))) BadSeq
  s ← ok_or (read_stamp (take 8 (drop 22 text))) BadStamp
  if bytes_eq (drop 30 text) application then Ok (record { date = d; dest = e; seq = n; stamp = s }) else Err BadApplication
