-- Identifiers and their texts determine each other.
use Rattle.std.proofs.Common.{ok_or, ◌≡◌, ℕ, ◌^◌, ◌<◌, ◌&&◌, Bool, true, false, if◌then◌else◌, Option, Some, None, Result, Ok, Err, bytes_eq, List, ◌++◌, length, length-append, take, drop, nat_le, refl, sym, ap, ◌∙◌, arith}
use Rattle.std.specs.List.{list_all}
use Rattle.std.proofs.lemmas.Bool.{and_parts, and_from, cond-true, leb-true, le-leb}
use Rattle.std.proofs.lemmas.List.{take_at, drop_at, length-take-le, length-drop, take-append-drop}
use Rattle.std.proofs.lemmas.Option.{cond_some, none-some}
use Rattle.std.proofs.lemmas.Slice.Eq.{bytes_eq-Decides}
use Rattle.faim_base.specs.Text.{is_digit, is_endpoint, read_endpoint}
use Rattle.faim_base.specs.Digits.{number_of, padded, read_seq}
use Rattle.faim_base.specs.Calendar.{read_date, date_text, days_in_month}
use Rattle.faim_base.specs.Ids.{◌>>=◌, imad_text, read_imad, position_of, position_text, read_position, is_stamp, stamp_text, stamp_in, read_stamp, application, omad_text, read_omad}
use Rattle.faim_base.specs.Numbers.{IsSeq}
use Rattle.faim_base.specs.Ranges.{IsEndpoint, IsImad, IsPosition, IsOmad}
use Rattle.faim_base.specs.declared.ids.Imad.{Imad}
use Rattle.faim_base.specs.declared.ids.Omad.{Omad}
use Rattle.faim_base.specs.declared.ids.OutPos.{OutPos}
use Rattle.faim_base.specs.declared.ids.Stamp.{Stamp}
use Rattle.faim_base.specs.declared.ids.IdFault.TheVariants.{BadDate, BadSource, BadSeq, BadStamp, BadApplication}
use Rattle.faim_base.proofs.CutLemmas.{parts_of_three, parts_of_four, parts_of_five, join_three, join_four, join_five}
use Rattle.faim_base.proofs.DateLemmas.{days_in_month_le, length-date_text, read_date-date_text, date_text-read_date}
use Rattle.faim_base.proofs.DigitLemmas.{length-padded, list_all-padded, number_of-padded, padded-number_of, number_of_lt}
use Rattle.faim_base.proofs.ReadLemmas.{all_of_parts, all_of_stamp}

-- what a chain of steps came from
bind_ok : {A B E : Type 0} (r : Result A E) (f : A → Result B E) (y : B) → (r >>= f) ≡ Ok y → (x : A) × (r ≡ Ok x) × (f x ≡ Ok y)
bind_ok (Ok x) f y e = (x, refl, e)
bind_ok (Err fault) f y e = absurd cc

ok_or_some : {A E : Type 0} (o : Option A) (fault : E) (x : A) → ok_or o fault ≡ Ok x → o ≡ Some x
ok_or_some (Some x) fault y e = cc
ok_or_some None fault y e = absurd cc

-- message numbers
read_seq-padded : (n : ℕ) → IsSeq n → read_seq (padded 6 n) ≡ Some n
read_seq-padded n h =
    rw (list_all-padded 6 n, number_of-padded 6 n (omega arith), le-leb 1 n h.0) refl

padded-read_seq : (text : List ℕ) (n : ℕ) → length text ≡ 6 → read_seq text ≡ Some n → (padded 6 n ≡ text) × IsSeq n
padded-read_seq text n size e =
    let found = cond_some (list_all is_digit text && nat_le 1 (number_of text)) (number_of text) n e in
    let tests = and_parts (list_all is_digit text) (nat_le 1 (number_of text)) found.0 in
    let low = leb-true 1 (number_of text) tests.1 in
    let high = number_of_lt text tests.0 in
    let bound : number_of text < 10 ^ 6 = rw size at high in
    (rw (sym found.1) (padded-number_of text 6 size tests.0), (omega (arith, found.1), omega (arith, found.1)))

-- endpoints
read_endpoint-same : (e : List ℕ) → IsEndpoint e → read_endpoint e ≡ Some e
read_endpoint-same e h = rw h.1 refl

same-read_endpoint : (text e : List ℕ) → length text ≡ 8 → read_endpoint text ≡ Some e → (e ≡ text) × IsEndpoint e
same-read_endpoint text e size h =
    let found = cond_some (is_endpoint text) text e h in
    (sym found.1, (ap length (sym found.1) ∙ size, rw found.1 at found.0))

-- positions
pub length-position_text : (p : OutPos) → length (position_text p) ≡ 14
length-position_text p = omega (arith, length-append (date_text p.date) (padded 6 p.seq), length-date_text p.date, length-padded 6 p.seq)

pub read_position-position_text : (p : OutPos) → IsPosition p → read_position (position_text p) ≡ Some p
read_position-position_text p h =
    let size = length-date_text p.date in
    rw (take_at (date_text p.date) (padded 6 p.seq) 8 size, drop_at (date_text p.date) (padded 6 p.seq) 8 size, read_date-date_text p.date h.day, read_seq-padded p.seq h.number) refl

position_of_some : (d n : Option ℕ) (p : OutPos) → position_of d n ≡ Some p → (d ≡ Some p.date) × (n ≡ Some p.seq)
position_of_some (Some d) (Some n) p e = (cc, cc)
position_of_some (Some d) None p e = absurd (none-some p e)
position_of_some None n p e = absurd (none-some p e)

pub position_text-read_position : (text : List ℕ) (p : OutPos) → length text ≡ 14 → read_position text ≡ Some p → (position_text p ≡ text) × IsPosition p
position_text-read_position text p size e =
    let parts = position_of_some (read_date (take 8 text)) (read_seq (drop 8 text)) p e in
    let day = date_text-read_date (take 8 text) p.date (length-take-le 8 text (omega arith)) parts.0 in
    let number = padded-read_seq (drop 8 text) p.seq (omega (arith, length-drop 8 text)) parts.1 in
    (rw (day.0, number.0) (take-append-drop 8 text), record { day = day.1; number = number.1 })

-- IMADs
pub length-imad_text : (i : Imad) → IsImad i → length (imad_text i) ≡ 22
length-imad_text i h =
    omega (arith, h.sender.0, length-append (date_text i.date ++ i.source) (padded 6 i.seq), length-append (date_text i.date) i.source, length-date_text i.date, length-padded 6 i.seq)

pub read_imad-imad_text : (i : Imad) → IsImad i → read_imad (imad_text i) ≡ Ok i
read_imad-imad_text i h =
    let cut = parts_of_three (date_text i.date) i.source (padded 6 i.seq) 8 8 16 (length-date_text i.date) h.sender.0 refl in
    rw (cut.0, cut.1, cut.2, read_date-date_text i.date h.day, read_endpoint-same i.source h.sender, read_seq-padded i.seq h.number) refl

pub imad_text-read_imad : (text : List ℕ) (i : Imad) → length text ≡ 22 → read_imad text ≡ Ok i → (imad_text i ≡ text) × IsImad i
imad_text-read_imad text i size e =
    let (d, e_d, rest_d) = bind_ok (ok_or (read_date (take 8 text)) BadDate) _ i e in
    let (source, e_s, rest_s) = bind_ok (ok_or (read_endpoint (take 8 (drop 8 text))) BadSource) _ i rest_d in
    let (n, e_n, rest_n) = bind_ok (ok_or (read_seq (drop 16 text)) BadSeq) _ i rest_s in
    let date : i.date ≡ d = cc in
    let endpoint : i.source ≡ source = cc in
    let seq : i.seq ≡ n = cc in
    let day = date_text-read_date (take 8 text) i.date (length-take-le 8 text (omega arith)) (ok_or_some _ BadDate d e_d ∙ ap (λ (k : ℕ). Some k) (sym date)) in
    let name = same-read_endpoint (take 8 (drop 8 text)) i.source (length-take-le 8 (drop 8 text) (omega (arith, length-drop 8 text))) (ok_or_some _ BadSource source e_s ∙ ap (λ (k : List ℕ). Some k) (sym endpoint)) in
    let number = padded-read_seq (drop 16 text) i.seq (omega (arith, length-drop 16 text)) (ok_or_some _ BadSeq n e_n ∙ ap (λ (k : ℕ). Some k) (sym seq)) in
    (rw (day.0, name.0, number.0) (join_three text 8 8 16 refl), record { day = day.1; sender = name.1; number = number.1 })

-- stamps
length-stamp_text : (s : Stamp) → length (stamp_text s) ≡ 8
length-stamp_text s =
    omega (arith, length-append (padded 2 s.month ++ padded 2 s.day ++ padded 2 s.hour) (padded 2 s.minute), length-append (padded 2 s.month ++ padded 2 s.day) (padded 2 s.hour), length-append (padded 2 s.month) (padded 2 s.day), length-padded 2 s.month, length-padded 2 s.day, length-padded 2 s.hour, length-padded 2 s.minute)

-- each number of a stamp has two digits
record TwoDigits (s : Stamp) : Type 0 where
  month_two : s.month < 100
  day_two : s.day < 100
  hour_two : s.hour < 100
  minute_two : s.minute < 100

stamp_digits : (s : Stamp) → is_stamp s ≡ true → TwoDigits s
stamp_digits s h =
    let a = and_parts (nat_le 1 s.month) _ h in
    let b = and_parts (nat_le s.month 12) _ a.1 in
    let c = and_parts (nat_le 1 s.day) _ b.1 in
    let e = and_parts (nat_le s.day (days_in_month 2000 s.month)) _ c.1 in
    let f = and_parts (nat_le s.hour 23) _ e.1 in
    let month = leb-true s.month 12 b.0 in
    let day = leb-true s.day (days_in_month 2000 s.month) e.0 in
    let hour = leb-true s.hour 23 f.0 in
    let minute = leb-true s.minute 59 f.1 in
    record {
      month_two = omega arith;
      day_two = omega (arith, days_in_month_le 2000 s.month);
      hour_two = omega arith;
      minute_two = omega arith;
    }

stamp_read_from : (text : List ℕ) (s : Stamp) → list_all is_digit text ≡ true → stamp_in text ≡ s → is_stamp s ≡ true → read_stamp text ≡ Some s
stamp_read_from text s all same h =
    let test : is_stamp (stamp_in text) ≡ true = ap is_stamp same ∙ h in
    let chosen = and_from (list_all is_digit text) (is_stamp (stamp_in text)) all test in
    cond-true (list_all is_digit text && is_stamp (stamp_in text)) (Some (stamp_in text)) None chosen ∙ ap (λ (t : Stamp). Some t) same

read_stamp-stamp_text : (s : Stamp) → is_stamp s ≡ true → read_stamp (stamp_text s) ≡ Some s
read_stamp-stamp_text s h =
    let cut = parts_of_four (padded 2 s.month) (padded 2 s.day) (padded 2 s.hour) (padded 2 s.minute) 2 2 4 2 6 (length-padded 2 s.month) (length-padded 2 s.day) (length-padded 2 s.hour) refl refl in
    let two = stamp_digits s h in
    let all = all_of_stamp (stamp_text s) (length-stamp_text s) (rw cut.0 (list_all-padded 2 s.month)) (rw cut.1 (list_all-padded 2 s.day)) (rw cut.2 (list_all-padded 2 s.hour)) (rw cut.3 (list_all-padded 2 s.minute)) in
    let month = ap number_of cut.0 ∙ number_of-padded 2 s.month two.month_two in
    let day = ap number_of cut.1 ∙ number_of-padded 2 s.day two.day_two in
    let hour = ap number_of cut.2 ∙ number_of-padded 2 s.hour two.hour_two in
    let minute = ap number_of cut.3 ∙ number_of-padded 2 s.minute two.minute_two in
    let same : stamp_in (stamp_text s) ≡ s = rw (month, day, hour, minute) refl in
    stamp_read_from (stamp_text s) s all same h

stamp_text-read_stamp : (text : List ℕ) (s : Stamp) → length text ≡ 8 → read_stamp text ≡ Some s → (stamp_text s ≡ text) × (is_stamp s ≡ true)
stamp_text-read_stamp text s size e =
    let found = cond_some (list_all is_digit text && is_stamp (stamp_in text)) (stamp_in text) s e in
    let tests = and_parts (list_all is_digit text) (is_stamp (stamp_in text)) found.0 in
    let first = all_of_parts is_digit text 0 2 2 refl tests.0 in
    let second = all_of_parts is_digit text 2 2 4 refl first.1 in
    let third = all_of_parts is_digit text 4 2 6 refl second.1 in
    let month = padded-number_of (take 2 text) 2 (length-take-le 2 text (omega arith)) first.0 in
    let day = padded-number_of (take 2 (drop 2 text)) 2 (length-take-le 2 (drop 2 text) (omega (arith, length-drop 2 text))) second.0 in
    let hour = padded-number_of (take 2 (drop 4 text)) 2 (length-take-le 2 (drop 4 text) (omega (arith, length-drop 4 text))) third.0 in
    let minute = padded-number_of (drop 6 text) 2 (omega (arith, length-drop 6 text)) third.1 in
    let same : stamp_text (stamp_in text) ≡ text = rw (month, day, hour, minute) (join_four text 2 2 4 2 6 refl refl) in
    (ap stamp_text (sym found.1) ∙ same, ap is_stamp (sym found.1) ∙ tests.1)

-- OMADs
application_is : bytes_eq application application ≡ true
application_is = (bytes_eq-Decides application application).1 refl

pub length-omad_text : (o : Omad) → IsOmad o → length (omad_text o) ≡ 34
length-omad_text o h =
    let numbered = padded 6 o.seq in
    let stamped = stamp_text o.stamp in
    omega (arith, h.receiver.0, length-append (date_text o.date ++ o.dest ++ numbered ++ stamped) application, length-append (date_text o.date ++ o.dest ++ numbered) stamped, length-append (date_text o.date ++ o.dest) numbered, length-append (date_text o.date) o.dest, length-date_text o.date, length-padded 6 o.seq, length-stamp_text o.stamp)

omad_read_from : (text : List ℕ) (o : Omad) → read_date (take 8 text) ≡ Some o.date → read_endpoint (take 8 (drop 8 text)) ≡ Some o.dest → read_seq (take 6 (drop 16 text)) ≡ Some o.seq → read_stamp (take 8 (drop 22 text)) ≡ Some o.stamp → bytes_eq (drop 30 text) application ≡ true → read_omad text ≡ Ok o
omad_read_from text o day receiver number moment named = rw (day, receiver, number, moment, named) refl

omad_joined : (text : List ℕ) (o : Omad) → date_text o.date ≡ take 8 text → o.dest ≡ take 8 (drop 8 text) → padded 6 o.seq ≡ take 6 (drop 16 text) → stamp_text o.stamp ≡ take 8 (drop 22 text) → application ≡ drop 30 text → omad_text o ≡ text
omad_joined text o day receiver number moment named = rw (day, receiver, number, moment, named) (join_five text 8 8 16 6 22 8 30 refl refl refl)

chosen_ok : {A E : Type 0} (test : Bool) (x : A) (fault : E) (y : A) → ◌≡◌ {A = Result A E} (if test then Ok x else Err fault) (Ok y) → (test ≡ true) × (x ≡ y)
chosen_ok true x fault y e = (refl, cc)
chosen_ok false x fault y e = absurd cc

pub read_omad-omad_text : (o : Omad) → IsOmad o → read_omad (omad_text o) ≡ Ok o
read_omad-omad_text o h =
    let cut = parts_of_five (date_text o.date) o.dest (padded 6 o.seq) (stamp_text o.stamp) application 8 8 16 6 22 8 30 (length-date_text o.date) h.receiver.0 (length-padded 6 o.seq) (length-stamp_text o.stamp) refl refl refl in
    let day = ap read_date cut.0 ∙ read_date-date_text o.date h.day in
    let receiver = ap read_endpoint cut.1 ∙ read_endpoint-same o.dest h.receiver in
    let number = ap read_seq cut.2 ∙ read_seq-padded o.seq h.number in
    let moment = ap read_stamp cut.3 ∙ read_stamp-stamp_text o.stamp h.moment in
    let named = ap (λ (t : List ℕ). bytes_eq t application) cut.4 ∙ application_is in
    omad_read_from (omad_text o) o day receiver number moment named

pub omad_text-read_omad : (text : List ℕ) (o : Omad) → length text ≡ 34 → read_omad text ≡ Ok o → (omad_text o ≡ text) × IsOmad o
omad_text-read_omad text o size e =
    let (d, e_d, rest_d) = bind_ok (ok_or (read_date (take 8 text)) BadDate) _ o e in
    let (dest, e_r, rest_r) = bind_ok (ok_or (read_endpoint (take 8 (drop 8 text))) BadSource) _ o rest_d in
    let (n, e_n, rest_n) = bind_ok (ok_or (read_seq (take 6 (drop 16 text))) BadSeq) _ o rest_r in
    let (s, e_s, rest_s) = bind_ok (ok_or (read_stamp (take 8 (drop 22 text))) BadStamp) _ o rest_n in
    let last = chosen_ok (bytes_eq (drop 30 text) application) _ BadApplication o rest_s in
    let date : o.date ≡ d = cc in
    let receiver : o.dest ≡ dest = cc in
    let seq : o.seq ≡ n = cc in
    let moment : o.stamp ≡ s = cc in
    let named : application ≡ drop 30 text = sym ((bytes_eq-Decides (drop 30 text) application).0 last.0) in
    let day = date_text-read_date (take 8 text) o.date (length-take-le 8 text (omega arith)) (ok_or_some _ BadDate d e_d ∙ ap (λ (k : ℕ). Some k) (sym date)) in
    let name = same-read_endpoint (take 8 (drop 8 text)) o.dest (length-take-le 8 (drop 8 text) (omega (arith, length-drop 8 text))) (ok_or_some _ BadSource dest e_r ∙ ap (λ (k : List ℕ). Some k) (sym receiver)) in
    let number = padded-read_seq (take 6 (drop 16 text)) o.seq (length-take-le 6 (drop 16 text) (omega (arith, length-drop 16 text))) (ok_or_some _ BadSeq n e_n ∙ ap (λ (k : ℕ). Some k) (sym seq)) in
    let stamped = stamp_text-read_stamp (take 8 (drop 22 text)) o.stamp (length-take-le 8 (drop 22 text) (omega (arith, length-drop 22 text))) (ok_or_some _ BadStamp s e_s ∙ ap (λ (k : Stamp). Some k) (sym moment)) in
    let is : IsOmad o = record { day = day.1; receiver = name.1; number = number.1; moment = stamped.1 } in
    (omad_joined text o day.0 name.0 number.0 stamped.0 named, is)
