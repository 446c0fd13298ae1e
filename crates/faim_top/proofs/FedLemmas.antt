-- Bytes that are taken from a source and fed to a decoder.
use Rattle.std.proofs.Common.{◌≡◌, ◌≢◌, ◌⊎◌, inl, inr, ⊎_elim, ℕ, ◌+◌, ◌<◌, ◌≤◌, List, [], ◌++◌, length, length-append, Option, Some, None, sym, ◌∙◌, subst, refl, ap, arith}
use Rattle.std.specs.Prelude.{Ok, Err, IfSome}
use Rattle.std.specs.Io.KnownBytes.{Consumes, IsAtEnd}
use Rattle.std.proofs.KnownBytes.{Consumes-nil, Consumes-trans, Consumes-whole}
use Rattle.std.proofs.lemmas.Bool.{cases_lt}
use Rattle.faim_base.specs.Limits.{longest_message}
use Rattle.faim_base.specs.declared.judgement.Refused.{Refused}
use Rattle.faim_base.specs.declared.judgement.Refused.TheVariants.{Byte, Cut, Missing, NoMemory}
use Rattle.faim_message.specs.declared.form.Form.{Form}
use Rattle.faim_message.specs.declared.form.Form.TheVariants.{Input}
use Rattle.faim_message.specs.Spelling.{Content, Spells}
use Rattle.faim_message.specs.Refusal.{StopsAt, Refuses}
use Rattle.faim_stream.specs.Fed.{Held, IsFed, Judges}
use Rattle.faim_top.specs.Seen.{Seen, LosesAtMost}
use Rattle.faim_top.specs.Sources.{FeedsOn, FedAll, RefusesSource, TakesLittleBeyond}
use Rattle.faim_top.proofs.Endings.{AreShort, EachJudged, begins_short}

-- a stop stays, whatever comes after it
abbrev pub Stays : Type 0
Stays = (form : Form) (bytes more : List ℕ) (p : ℕ) → StopsAt form bytes p → StopsAt form (bytes ++ more) p

-- a stop within a front part is one of that part
abbrev pub StopsInFront : Type 0
StopsInFront = (form : Form) (bytes more : List ℕ) (p : ℕ) → StopsAt form (bytes ++ more) p → p < length bytes → StopsAt form bytes p

-- nothing is fed to a new decoder
pub none_fed : (left : Option (List ℕ)) (d : Held) → d.form ≡ Input → IsFed d [] → FedAll 0 (record { before = left; after = left }) d
none_fed left d input fed = record {
  bytes = [];
  counted = refl;
  taken = Consumes-nil left;
  fed = fed;
  input = input;
  going = λ p s. absurd (omega (arith, s.short));
}

-- bytes that stop nowhere are no longer than a message
judged_short : AreShort → (bytes : List ℕ) → ((p : ℕ) → StopsAt Input bytes p → ⊥) → ((m : Content) × Spells m bytes × (m.form ≡ Input)) ⊎ ((e : Refused) × Refuses Input bytes e × (e ≢ NoMemory)) → length bytes ≤ longest_message
judged_short short bytes going (inl m) = short m.0 bytes m.1
judged_short short bytes going (inr (Byte p, h, j)) = absurd (going p h)
judged_short short bytes going (inr (Missing n, h, j)) = begins_short short Input bytes h.0
judged_short short bytes going (inr (Cut, h, j)) = begins_short short Input bytes h.0
judged_short short bytes going (inr (NoMemory, h, j)) = absurd (j refl)

pub going_short : EachJudged → AreShort → (n : ℕ) (left : Seen (Option (List ℕ))) (d : Held) → FedAll n left d → n ≤ longest_message
going_short each short n left d all =
    omega (arith, all.counted, judged_short short all.bytes all.going (each Input all.bytes))

-- one piece more
pub fed_on : (m n : ℕ) (a b c : Option (List ℕ)) (d e : Held) → e.form ≡ d.form
    → FedAll m (record { before = a; after = b }) d → FeedsOn n (record { before = b; after = c }) d e (Ok tt)
    → FedAll (m + n) (record { before = a; after = c }) e
fed_on m n a b c d e same all on =
    let P : Form → Type 0 = λ f. Judges f (all.bytes ++ on.piece) (Ok tt) in
    record {
      bytes = all.bytes ++ on.piece;
      counted = omega (arith, length-append all.bytes on.piece, all.counted, on.counted);
      taken = Consumes-trans a b c all.bytes on.piece all.taken on.taken;
      fed = on.fed all.bytes all.fed;
      input = same ∙ all.input;
      going = subst P all.input (on.judged all.bytes all.fed);
    }

-- a piece at which the bytes are refused
whole_refused : Stays → (left rest : Option (List ℕ)) (bytes : List ℕ) (p : ℕ) → Consumes left rest bytes → StopsAt Input bytes p → IfSome left (λ text. Refuses Input text (Byte p))
whole_refused stays None rest bytes p taken s = tt
whole_refused stays (Some xs) None bytes p taken s = absurd taken
whole_refused stays (Some xs) (Some ys) bytes p taken s =
    let P : List ℕ → Type 0 = λ t. StopsAt Input t p in
    subst P (sym taken) (stays Input bytes ys p s)

not_in_front : StopsInFront → (bytes piece : List ℕ) (p : ℕ) → ((q : ℕ) → StopsAt Input bytes q → ⊥) → StopsAt Input (bytes ++ piece) p → length bytes ≤ p
not_in_front front bytes piece p going s = ⊎_elim
    (λ (lt : p < length bytes). absurd (going p (front Input bytes piece p s lt)))
    (λ (le : length bytes ≤ p). le)
    (cases_lt p (length bytes))

pub refused_on : Stays → (m n : ℕ) (a b c : Option (List ℕ)) (d e : Held) (why : Refused)
    → FedAll m (record { before = a; after = b }) d → FeedsOn n (record { before = b; after = c }) d e (Err why)
    → RefusesSource (record { before = a; after = c }) why
refused_on stays m n a b c d e why all on =
    let P : Form → Type 0 = λ f. Judges f (all.bytes ++ on.piece) (Err why) in
    let judged : Judges Input (all.bytes ++ on.piece) (Err why) = subst P all.input (on.judged all.bytes all.fed) in
    let taken : Consumes a c (all.bytes ++ on.piece) = Consumes-trans a b c all.bytes on.piece all.taken on.taken in
    let Q : Refused → Type 0 = λ r. IfSome a (λ text. Refuses Input text r) in
    subst Q (sym judged.1) (whole_refused stays a c (all.bytes ++ on.piece) judged.0 taken judged.2)

-- no more is taken than the pieces have
pub takes_few : (m n most : ℕ) (a b c : Option (List ℕ)) (d : Held) → m + n ≤ most → FedAll m (record { before = a; after = b }) d → LosesAtMost n (record { before = b; after = c })
    → LosesAtMost most (record { before = a; after = c })
takes_few m n most a b c d few all more = record {
  piece = all.bytes ++ more.piece;
  taken = Consumes-trans a b c all.bytes more.piece all.taken more.taken;
  within = omega (arith, length-append all.bytes more.piece, all.counted, more.within, few);
}

-- what was fed stops nowhere, so a piece more goes little beyond a stop
fed_before : StopsInFront → (xs : List ℕ) (b : Option (List ℕ)) (bytes : List ℕ) (p : ℕ) → ((q : ℕ) → StopsAt Input bytes q → ⊥) → Consumes (Some xs) b bytes → StopsAt Input xs p → length bytes ≤ p
fed_before front xs None bytes p going taken s = absurd taken
fed_before front xs (Some ys) bytes p going taken s =
    let P : List ℕ → Type 0 = λ t. StopsAt Input t p in
    not_in_front front bytes ys p going (subst P taken s)

pub takes_little : StopsInFront → (m n : ℕ) (a b c : Option (List ℕ)) (d : Held) → n ≤ 4_096 → FedAll m (record { before = a; after = b }) d → LosesAtMost n (record { before = b; after = c })
    → TakesLittleBeyond (record { before = a; after = c })
takes_little front m n None b c d few all more = tt
takes_little front m n (Some xs) b c d few all more = λ p s. record {
  piece = all.bytes ++ more.piece;
  taken = Consumes-trans (Some xs) b c all.bytes more.piece all.taken more.taken;
  within = omega (arith, length-append all.bytes more.piece, more.within, few, fed_before front xs b all.bytes p all.going all.taken s);
}

-- where nothing is taken
pub takes_nothing : (a : Option (List ℕ)) → TakesLittleBeyond (record { before = a; after = a })
takes_nothing None = tt
takes_nothing (Some xs) = λ p s. record { piece = []; taken = Consumes-nil (Some xs); within = omega arith }

-- what was fed to the end of the source is all that it had
pub fed_whole : (n : ℕ) (a b : Option (List ℕ)) (d : Held) (P : List ℕ → Type 0) (all : FedAll n (record { before = a; after = b }) d) → IsAtEnd b → P all.bytes → IfSome a P
fed_whole n a b d P all end h = Consumes-whole a b all.bytes P all.taken end h

-- and it is refused
pub refused_whole : (n : ℕ) (a b : Option (List ℕ)) (d : Held) (why : Refused) (all : FedAll n (record { before = a; after = b }) d) → IsAtEnd b → Refuses d.form all.bytes why
    → RefusesSource (record { before = a; after = b }) why
refused_whole n a b d why all end h =
    let P : Form → Type 0 = λ f. Refuses f all.bytes why in
    let refuses : Refuses Input all.bytes why = subst P all.input h in
    fed_whole n a b d (λ text. Refuses Input text why) all end refuses

-- where memory runs out nothing is said of the bytes
pub out_of_memory : (a : Option (List ℕ)) → RefusesSource (record { before = a; after = a }) NoMemory
out_of_memory None = tt
out_of_memory (Some xs) = tt
