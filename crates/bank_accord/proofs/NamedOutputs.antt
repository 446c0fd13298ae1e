-- The name of an output is read as the same output, whatever its stamp.
use Rattle.std.proofs.Common.{◌≡◌, refl, sym, ap, ◌∙◌, ℕ, ◌≤◌, List, ◌++◌, length, length-append, take, drop, Some, Ok, arith}
use Rattle.faim_base.specs.declared.ids.Omad.{Omad}
use Rattle.faim_base.specs.declared.ids.Stamp.{Stamp}
use Rattle.faim_base.specs.Calendar.{date_text, read_date}
use Rattle.faim_base.specs.Digits.{number_of, padded}
use Rattle.faim_base.specs.Ids.{application, omad_text, read_omad, stamp_text}
use Rattle.faim_base.specs.Numbers.{IsDay, IsSeq}
use Rattle.faim_base.specs.Ranges.{IsEndpoint}
use Rattle.faim_base.proofs.CutLemmas.{parts_of_five}
use Rattle.faim_base.proofs.DateLemmas.{length-date_text, read_date-date_text}
use Rattle.faim_base.proofs.DigitLemmas.{length-padded, number_of-padded}
use Rattle.faim_base.proofs.IdLemmas.{omad_text-read_omad}

-- how long a stamp and the name of an output are
stamp_long : (s : Stamp) → length (stamp_text s) ≡ 8
stamp_long s =
    omega (
      arith,
      length-append (padded 2 s.month ++ padded 2 s.day ++ padded 2 s.hour) (padded 2 s.minute),
      length-append (padded 2 s.month ++ padded 2 s.day) (padded 2 s.hour),
      length-append (padded 2 s.month) (padded 2 s.day),
      length-padded 2 s.month,
      length-padded 2 s.day,
      length-padded 2 s.hour,
      length-padded 2 s.minute,
    )

name_long : (o : Omad) → length o.dest ≡ 8 → length (omad_text o) ≡ 34
name_long o long =
    let numbered = padded 6 o.seq in
    let stamped = stamp_text o.stamp in
    omega (
      arith,
      long,
      length-append (date_text o.date ++ o.dest ++ numbered ++ stamped) application,
      length-append (date_text o.date ++ o.dest ++ numbered) stamped,
      length-append (date_text o.date ++ o.dest) numbered,
      length-append (date_text o.date) o.dest,
      length-date_text o.date,
      length-padded 6 o.seq,
      stamp_long o.stamp,
    )

-- the date, the endpoint and the number stand in their places
record Parts (text : List ℕ) (o : Omad) : Type 0 where
  dated : take 8 text ≡ date_text o.date
  named : take 8 (drop 8 text) ≡ o.dest
  counted : take 6 (drop 16 text) ≡ padded 6 o.seq

parts : (o : Omad) → length o.dest ≡ 8 → Parts (omad_text o) o
parts o long =
    let cut = parts_of_five (date_text o.date) o.dest (padded 6 o.seq) (stamp_text o.stamp) application 8 8 16 6 22 8 30
    (length-date_text o.date) long (length-padded 6 o.seq) (stamp_long o.stamp) refl refl refl in
    record { dated = cut.0; named = cut.1; counted = cut.2 }

-- six digits tell a number
number_back : (n : ℕ) → IsSeq n → number_of (padded 6 n) ≡ n
number_back n is = let few : n ≤ 999_999 = is.1 in number_of-padded 6 n (omega (arith, few))

-- two outputs of one endpoint at one position
pub record SameOutput (r o : Omad) : Type 0 where
  pub date : r.date ≡ o.date
  pub dest : r.dest ≡ o.dest
  pub seq : r.seq ≡ o.seq

-- a name that is read as one of an output is that output's
pub name_read : (o r : Omad) → IsDay o.date → IsEndpoint o.dest → IsSeq o.seq → read_omad (omad_text o) ≡ Ok r → SameOutput r o
name_read o r day line number read =
    let both = omad_text-read_omad (omad_text o) r (name_long o line.0) read in
    let own = parts o line.0 in
    let other = parts r both.1.receiver.0 in
    let dates : date_text r.date ≡ date_text o.date = sym other.dated ∙ ap (take 8) both.0 ∙ own.dated in
    let numbers : padded 6 r.seq ≡ padded 6 o.seq = sym other.counted ∙ ap (λ (t : List ℕ). take 6 (drop 16 t)) both.0 ∙ own.counted in
    let found : Some r.date ≡ Some o.date = sym (read_date-date_text r.date both.1.day) ∙ ap read_date dates ∙ read_date-date_text o.date day in
    record {
      date = cc;
      dest = sym other.named ∙ ap (λ (t : List ℕ). take 8 (drop 8 t)) both.0 ∙ own.named;
      seq = sym (number_back r.seq both.1.number) ∙ ap number_of numbers ∙ number_back o.seq number;
    }
