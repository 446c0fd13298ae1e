-- What follows from the numbers that the parts of a text spell.
use Rattle.std.proofs.Common.{ok_or, ◌≡◌, ℕ, ◌+◌, ◌^◌, ◌<◌, ◌&&◌, Bool, true, false, if◌then◌else◌, Option, Some, None, Result, Ok, Err, bytes_eq, List, length, take, drop, nat_le, refl, sym, ap, ◌∙◌, arith}
use Rattle.std.specs.List.{list_all}
use Rattle.std.proofs.Math.Seq.{take-length}
use Rattle.std.proofs.lemmas.Bool.{and_parts, le-leb}
use Rattle.std.proofs.lemmas.List.{take-append-drop, drop-drop, length-drop}
use Rattle.std.proofs.lemmas.List.Folds.{list_all-append}
use Rattle.std.proofs.lemmas.Option.{cond_some, none-some}
use Rattle.faim_base.specs.Text.{is_digit, read_endpoint}
use Rattle.faim_base.specs.Digits.{number_of, is_number, read_number, read_seq}
use Rattle.faim_base.specs.Calendar.{date_of, read_date}
use Rattle.faim_base.specs.declared.ids.Stamp.{Stamp}
use Rattle.faim_base.specs.declared.ids.Imad.{Imad}
use Rattle.faim_base.specs.declared.ids.Omad.{Omad}
use Rattle.faim_base.specs.declared.ids.IdFault.{IdFault}
use Rattle.faim_base.specs.declared.ids.IdFault.TheVariants.{BadDate, BadSource, BadSeq, BadStamp, BadApplication}
use Rattle.faim_base.specs.Ids.{stamp_in, is_stamp, read_stamp, position_of, read_position, ◌>>=◌, read_imad, application, read_omad}
use Rattle.faim_base.proofs.DigitLemmas.{number_of_lt}

-- a text of digits that spell a number
pub record Spells (text : List ℕ) (n : ℕ) : Type 0 where
  pub all : list_all is_digit text ≡ true
  pub value : number_of text ≡ n

pub Spells-from_read : (text : List ℕ) (n : ℕ) → Some n ≡ read_number text → Spells text n
Spells-from_read text n e =
    let parts = cond_some (is_number text) (number_of text) n (sym e) in
    record { all = (and_parts _ (list_all is_digit text) parts.0).1; value = parts.1 }

pub Spells_lt : (text : List ℕ) (n width : ℕ) → Spells text n → length text ≡ width → n < 10 ^ width
Spells_lt text n width h e = rw (sym h.value, sym e) (number_of_lt text h.all)

-- a test of each byte, part by part
pub list_all_cut : (p : ℕ → Bool) (text : List ℕ) (i : ℕ) → list_all p text ≡ (list_all p (take i text) && list_all p (drop i text))
list_all_cut p text i = ap (list_all p) (sym (take-append-drop i text)) ∙ list_all-append p (take i text) (drop i text)

pub take_whole : (text : List ℕ) (n : ℕ) → length text ≡ n → take n text ≡ text
take_whole text n e = rw (sym e) (take-length text)

and_true : (b : Bool) → (b && true) ≡ b
and_true true = refl
and_true false = refl

-- the message number that six digits spell
pub read_seq_is : (text : List ℕ) (n : ℕ) → length text ≡ 6 → Some n ≡ read_number text → (if nat_le 1 n && nat_le n 999_999 then Some n else None) ≡ read_seq text
read_seq_is text n e h =
    let spells = Spells-from_read text n h in
    let small = Spells_lt text n 6 spells e in
    let top : nat_le n 999_999 ≡ true = le-leb n 999_999 (omega arith) in
    rw (top, spells.all, spells.value, and_true (nat_le 1 n)) refl

-- a value that is there only where a test holds
pub chosen_some : {A : Type 0} (test : Bool) (o : Option A) (x : A) → (if test then o else None) ≡ Some x → (test ≡ true) × (o ≡ Some x)
chosen_some true o x e = (refl, e)
chosen_some false o x e = absurd (none-some x e)

-- each part of a text passes a test that the text passes
pub all_of_parts : (p : ℕ → Bool) (text : List ℕ) (at n next : ℕ) → at + n ≡ next → list_all p (drop at text) ≡ true → (list_all p (take n (drop at text)) ≡ true) × (list_all p (drop next text) ≡ true)
all_of_parts p text at n next e all =
    let parts = and_parts (list_all p (take n (drop at text))) (list_all p (drop n (drop at text))) (sym (list_all_cut p (drop at text) n) ∙ all) in
    (parts.0, rw (sym e, sym (drop-drop n at text)) parts.1)

-- four, two and two digits
pub all_of_date : (text : List ℕ) → length text ≡ 8 → list_all is_digit (take 4 text) ≡ true → list_all is_digit (take 2 (drop 4 text)) ≡ true → list_all is_digit (drop 6 text) ≡ true → list_all is_digit text ≡ true
all_of_date text e a b c =
    let later : list_all is_digit (drop 4 text) ≡ true = list_all_cut is_digit (drop 4 text) 2 ∙ rw (b, drop-drop 2 4 text) c in
    list_all_cut is_digit text 4 ∙ rw (a, later) refl

-- the date that they spell
pub read_date_is : (text : List ℕ) (y m d : ℕ) → length text ≡ 8 → Some y ≡ read_number (take 4 text) → Some m ≡ read_number (take 2 (drop 4 text)) → Some d ≡ read_number (take 2 (drop 6 text)) → date_of y m d ≡ read_date text
read_date_is text y m d e f g h =
    let last = take_whole (drop 6 text) 2 (omega (arith, length-drop 6 text)) in
    let year = Spells-from_read (take 4 text) y f in
    let month = Spells-from_read (take 2 (drop 4 text)) m g in
    let day = Spells-from_read (drop 6 text) d (rw last at h) in
    let all = all_of_date text e year.all month.all day.all in
    rw (all, year.value, month.value, day.value) refl

-- two, two, two and two digits
pub all_of_stamp : (text : List ℕ) → length text ≡ 8 → list_all is_digit (take 2 text) ≡ true → list_all is_digit (take 2 (drop 2 text)) ≡ true → list_all is_digit (take 2 (drop 4 text)) ≡ true → list_all is_digit (drop 6 text) ≡ true → list_all is_digit text ≡ true
all_of_stamp text e a b c d =
    let late : list_all is_digit (drop 4 text) ≡ true = list_all_cut is_digit (drop 4 text) 2 ∙ rw (c, drop-drop 2 4 text) d in
    let later : list_all is_digit (drop 2 text) ≡ true = list_all_cut is_digit (drop 2 text) 2 ∙ rw (b, drop-drop 2 2 text) late in
    list_all_cut is_digit text 2 ∙ rw (a, later) refl

-- the stamp that they spell, where it is one
pub read_stamp_is : (text : List ℕ) (s : Stamp) (is : Bool) → length text ≡ 8 → Some s.month ≡ read_number (take 2 text) → Some s.day ≡ read_number (take 2 (drop 2 text)) → Some s.hour ≡ read_number (take 2 (drop 4 text)) → Some s.minute ≡ read_number (take 2 (drop 6 text)) → is ≡ is_stamp s → (if is then Some s else None) ≡ read_stamp text
read_stamp_is text s is e f g h k test =
    let last = take_whole (drop 6 text) 2 (omega (arith, length-drop 6 text)) in
    let month = Spells-from_read (take 2 text) s.month f in
    let day = Spells-from_read (take 2 (drop 2 text)) s.day g in
    let hour = Spells-from_read (take 2 (drop 4 text)) s.hour h in
    let minute = Spells-from_read (drop 6 text) s.minute (rw last at k) in
    let all = all_of_stamp text e month.all day.all hour.all minute.all in
    let same : stamp_in text ≡ s = rw (month.value, day.value, hour.value, minute.value) refl in
    rw (all, test) (ap (λ (t : Stamp). if is_stamp t then Some t else None) (sym same))

-- the position of the parts that were read
pub read_position_is : (text : List ℕ) (d n : Option ℕ) → length text ≡ 14 → d ≡ read_date (take 8 text) → n ≡ read_seq (take 6 (drop 8 text)) → position_of d n ≡ read_position text
read_position_is text d n e f g =
    let last = take_whole (drop 8 text) 6 (omega (arith, length-drop 8 text)) in
    rw (f, rw last at g) refl

-- the IMAD, or the fault of the first part that isn't one
abbrev pub imad_of : Option ℕ → Option (List ℕ) → Option ℕ → Result Imad IdFault
imad_of date source seq =
    ok_or date BadDate >>= λ d. ok_or source BadSource >>= λ e. ok_or seq BadSeq >>= λ n.
    Ok (record { date = d; source = e; seq = n })

pub read_imad_is : (text : List ℕ) (d : Option ℕ) (e : Option (List ℕ)) (n : Option ℕ) → length text ≡ 22 → d ≡ read_date (take 8 text) → e ≡ read_endpoint (take 8 (drop 8 text)) → n ≡ read_seq (take 6 (drop 16 text)) → imad_of d e n ≡ read_imad text
read_imad_is text d e n l f g h =
    let last = take_whole (drop 16 text) 6 (omega (arith, length-drop 16 text)) in
    rw (f, g, rw last at h) refl

-- the OMAD, or the fault of the first part that isn't one
abbrev pub omad_of : Option ℕ → Option (List ℕ) → Option ℕ → Option Stamp → Bool → Result Omad IdFault
omad_of date dest seq stamp is_application =
    ok_or date BadDate >>= λ d. ok_or dest BadSource >>= λ e. ok_or seq BadSeq >>= λ n. ok_or stamp BadStamp >>= λ s.
    if is_application then Ok (record { date = d; dest = e; seq = n; stamp = s }) else Err BadApplication

pub read_omad_is : (text : List ℕ) (d : Option ℕ) (e : Option (List ℕ)) (n : Option ℕ) (s : Option Stamp) (is : Bool) → length text ≡ 34 → d ≡ read_date (take 8 text) → e ≡ read_endpoint (take 8 (drop 8 text)) → n ≡ read_seq (take 6 (drop 16 text)) → s ≡ read_stamp (take 8 (drop 22 text)) → is ≡ bytes_eq (take 4 (drop 30 text)) application → omad_of d e n s is ≡ read_omad text
read_omad_is text d e n s is l f g h k test =
    let last = take_whole (drop 30 text) 4 (omega (arith, length-drop 30 text)) in
    rw (f, g, h, k, rw last at test) refl
