-- Bytes are refused for one reason.
use Rattle.std.proofs.Common.{◌≡◌, ◌<◌, ◌≤◌, ◌⊎◌, inl, inr, ℕ, List, ◌++◌, length, take, drop, Option, Some, sym, ap, subst, ◌∙◌, refl, append_assoc, length-append, arith}
use Rattle.std.proofs.lemmas.Bool.{cases_lt}
use Rattle.std.proofs.lemmas.List.{take_all, take-take, take-append-drop, take-append-le}
use Rattle.std.proofs.Math.Seq.{take-append_seam}
use Rattle.faim_base.specs.Limits.{longest_message}
use Rattle.faim_base.specs.declared.judgement.Refused.{Refused}
use Rattle.faim_base.specs.declared.judgement.Refused.TheVariants.{Byte, Cut, Missing, NoMemory}
use Rattle.faim_message.specs.declared.form.Form.{Form}
use Rattle.faim_message.specs.Refusal.{Begins, StopsAt, EndsWhole, Refuses, missing}
use Rattle.faim_message.specs.Stages.{start, reads, tags_of}
use Rattle.faim_message.specs.Spelling.{message_spelling}
use Rattle.faim_message.proofs.Judge.{same_some, tags_arrive}
use Rattle.faim_message.proofs.Lengths.{message_short}

-- bytes that stop somewhere don't begin a message
pub stops_short : (form : Form) (bytes : List ℕ) (p : ℕ) → StopsAt form bytes p → Begins form bytes → ⊥
stops_short form bytes p s b =
    let P : List ℕ → Type 0 = λ t. Begins form t in
    omega (arith, s.short, s.longest (length bytes) (omega arith) (subst P (sym (take_all (length bytes) bytes (omega arith))) b))

-- they stop at one place
pub one_place : (form : Form) (bytes : List ℕ) (p q : ℕ) → StopsAt form bytes p → StopsAt form bytes q → p ≡ q
one_place form bytes p q s t = omega (arith, s.short, t.short, s.longest q (omega (arith, t.short)) t.begins, t.longest p (omega (arith, s.short)) s.begins)

-- whole tags with their breaks are the tags of one list
pub same_tags : (form : Form) (bytes : List ℕ) (a b : EndsWhole form bytes) → a.tags ≡ b.tags
same_tags form bytes a b =
    let x = tags_arrive form a.tags a.breaks a.sound in
    let y = tags_arrive form b.tags b.breaks b.sound in
    let last : x.0 ≡ y.0 = same_some x.0 y.0 (reads form start bytes) (ap (reads form start) a.whole ∙ x.1) (ap (reads form start) b.whole ∙ y.1) in
    sym x.3 ∙ ap tags_of last ∙ y.3

same_number : (o : Option ℕ) (n m : ℕ) → o ≡ Some n → o ≡ Some m → n ≡ m
same_number o n m e f = cc

pub one_reason : (form : Form) (bytes : List ℕ) (a b : Refused) → Refuses form bytes a → Refuses form bytes b → (a ≡ b) ⊎ ((a ≡ NoMemory) ⊎ (b ≡ NoMemory))
one_reason form bytes NoMemory b h k = inr (inl refl)
one_reason form bytes (Byte p) NoMemory h k = inr (inr refl)
one_reason form bytes Cut NoMemory h k = inr (inr refl)
one_reason form bytes (Missing n) NoMemory h k = inr (inr refl)
one_reason form bytes (Byte p) (Byte q) h k = inl (ap Byte (one_place form bytes p q h k))
one_reason form bytes (Byte p) Cut h k = absurd (stops_short form bytes p h k.0)
one_reason form bytes (Byte p) (Missing n) h k = absurd (stops_short form bytes p h k.0)
one_reason form bytes Cut (Byte q) h k = absurd (stops_short form bytes q k h.0)
one_reason form bytes Cut Cut h k = inl refl
one_reason form bytes Cut (Missing n) h k = absurd (h.1 k.1.0)
one_reason form bytes (Missing n) (Byte q) h k = absurd (stops_short form bytes q k h.0)
one_reason form bytes (Missing n) Cut h k = absurd (k.1 h.1.0)
one_reason form bytes (Missing n) (Missing m) h k =
    inl (ap Missing (same_number (missing form h.1.0.tags) n m h.1.1 (ap (missing form) (same_tags form bytes h.1.0 k.1.0) ∙ k.1.1)))

-- what begins a message has no more bytes than the longest message
pub begun_short : (form : Form) (bytes : List ℕ) → Begins form bytes → length bytes ≤ longest_message
begun_short form bytes b =
    omega (arith, message_short b.message (message_spelling b.message) (record { sound = b.sound; spelled = refl }), ap length b.goes, length-append bytes b.rest)

-- a front of what begins a message begins one
begun_front : (form : Form) (bytes : List ℕ) (k : ℕ) → Begins form bytes → Begins form (take k bytes)
begun_front form bytes k b =
    record {
      message = b.message;
      sound = b.sound;
      form_is = b.form_is;
      rest = drop k bytes ++ b.rest;
      goes = b.goes ∙ ap (λ (t : List ℕ). t ++ b.rest) (sym (take-append-drop k bytes)) ∙ append_assoc (take k bytes) (drop k bytes) b.rest;
    }

-- where bytes stop doesn't change with what comes after them
pub stop_stays : (form : Form) (bytes more : List ℕ) (p : ℕ) → StopsAt form bytes p → StopsAt form (bytes ++ more) p
stop_stays form bytes more p s =
    let P : List ℕ → Type 0 = λ t. Begins form t in
    record {
      short = omega (arith, s.short, length-append bytes more);
      begins = subst P (sym (take-append-le p bytes more (omega (arith, s.short)))) s.begins;
      longest = λ k le b. elim (cases_lt (length bytes) k) [
        | inl lt ↦
            let front = begun_front form (take k (bytes ++ more)) (length bytes) b in
            let same : take (length bytes) (take k (bytes ++ more)) ≡ bytes = take-take (length bytes) k (bytes ++ more) (omega arith) ∙ take-append_seam bytes more in
            absurd (stops_short form bytes p s (subst P same front))
        | inr ge ↦ s.longest k ge (subst P (take-append-le k bytes more ge) b)
      ];
    }

pub stop_front : (form : Form) (bytes more : List ℕ) (p : ℕ) → StopsAt form (bytes ++ more) p → p < length bytes → StopsAt form bytes p
stop_front form bytes more p s lt =
    let P : List ℕ → Type 0 = λ t. Begins form t in
    record {
      short = lt;
      begins = subst P (take-append-le p bytes more (omega arith)) s.begins;
      longest = λ k le b. s.longest k (omega (arith, length-append bytes more)) (subst P (sym (take-append-le k bytes more le)) b);
    }
