-- Questions to a site, one after the other, and what they say of the image.
use Rattle.std.proofs.Common.{◌≡◌, inr, ⊎_elim, ℕ, zero, suc, ◌+◌, ◌<◌, ◌≤◌, min, Bool, true, false, nat_le, List, [], ◌∷◌, ◌++◌, length, take, drop, get_or, replicate, refl, sym, ◌∙◌, ap, subst, Ok, Err, Result, arith, append_assoc, take-append-drop, length-take, length-drop}
use Rattle.std.specs.Prelude.{IsErrAnd, IfOk, ◌↔◌, IsTrue}
use Rattle.std.specs.Int.{to_be_bytes, from_be_bytes, w32}
use Rattle.std.proofs.lemmas.Bool.{cases_lt, lt-leb, le-leb}
use Rattle.std.proofs.lemmas.Nat.{be_bytes_4, from_be_bytes-to_be_bytes_4}
use Rattle.std.proofs.lemmas.List.{replicate-append-replicate, take_all, drop-drop}
use Rattle.site_core.specs.Log.{Act, reads, sent}
use Rattle.site_core.specs.Log.Act.{Asked, Synced}
use Rattle.site_core.specs.Told.{Told, Asks, Syncs, IsSync, IsRead}
use Rattle.site_core.proofs.Runs.{ran_as, ran_on}
use Rattle.torn_journal.specs.declared.faults.ResumeFault.{ResumeFault}
use Rattle.torn_journal.specs.declared.faults.ResumeFault.TheVariants as resume_faults
use Rattle.torn_journal.specs.declared.reading.Next.{Next}
use Rattle.torn_journal.specs.declared.reading.Next.TheVariants as nexts
use Rattle.torn_journal.specs.Damage.{NoRecord}
use Rattle.torn_journal.specs.Journal.{header, open_gate, record_of, HasHeader}
use Rattle.torn_journal.specs.Limits.{header_length, record_overhead, longest_payload}
use Rattle.torn_journal.specs.Reading.{Looks, Seeks, Holds, HeadIs, NextIs, IsSized}
use Rattle.torn_journal.specs.Resume.{no_fault}

abbrev pub IsAsking : ℕ → List Act → Type 0
IsAsking most acts = (n : ℕ) × (n ≤ most) × (acts ≡ replicate n Asked)

pub one_look : {T E : Type 0} (v : T) (a b : Told) → Asks {E = E} (Ok v) a b → Looks true 1 a b
one_look v a b call = ran_as true _ (IsAsking 1) a b (λ x p. (1, omega arith, p)) call.ran

pub looks_on : (whole : Bool) (m n k : ℕ) (a b c : Told) → m + n ≤ k → Looks true m a b → Looks whole n b c → Looks whole k a c
looks_on whole m n k a b c le p q = ran_on whole (IsAsking m) (IsAsking n) (IsAsking k) a b c
    (λ x y f g. (g.0 + f.0, omega (arith, f.1, g.1, le), ap (λ (l : List Act). y ++ l) f.2 ∙ ap (λ (l : List Act). l ++ replicate f.0 Asked) g.2 ∙ replicate-append-replicate g.0 f.0 Asked))
    p q

-- a sync, and then questions
abbrev pub IsSeeking : ℕ → List Act → Type 0
IsSeeking most acts = (n : ℕ) × (n ≤ most) × (acts ≡ replicate n Asked ++ Synced ∷ [])

pub synced_first : {E : Type 0} (u : Unit {0}) (whole : Bool) (n : ℕ) (a b c : Told) → Syncs {E = E} (Ok u) a b → Looks whole n b c → Seeks whole n a c
synced_first {E} u whole n a b c call looks = ran_on whole (IsSync {E = E} (Ok u)) (IsAsking n) (IsSeeking n) a b c
    (λ x y f g. (g.0, g.1, ap (λ (l : List Act). l ++ x) g.2 ∙ ap (λ (l : List Act). replicate g.0 Asked ++ l) f))
    call.ran looks

pub seeks_on : (whole : Bool) (m n k : ℕ) (a b c : Told) → m + n ≤ k → Seeks true m a b → Looks whole n b c → Seeks whole k a c
seeks_on whole m n k a b c le p q = ran_on whole (IsSeeking m) (IsAsking n) (IsSeeking k) a b c
    (λ x y f g. (
      g.0 + f.0,
      omega (arith, f.1, g.1, le),
      ap (λ (l : List Act). y ++ l) f.2
          ∙ ap (λ (l : List Act). l ++ (replicate f.0 Asked ++ Synced ∷ [])) g.2
          ∙ sym (append_assoc (replicate g.0 Asked) (replicate f.0 Asked) (Synced ∷ []))
          ∙ ap (λ (l : List Act). l ++ Synced ∷ []) (replicate-append-replicate g.0 f.0 Asked),
    ))
    p q

pub reads_asked : (n : ℕ) (log : List Act) → reads (replicate n Asked ++ log) ≡ reads log
reads_asked zero log = refl
reads_asked (suc n) log = reads_asked n log

pub sent_asked : (n : ℕ) (log : List Act) → sent (replicate n Asked ++ log) ≡ sent log
sent_asked zero log = refl
sent_asked (suc n) log = sent_asked n log

-- questions change neither the image nor what was sent
pub same_reads : (whole : Bool) (most : ℕ) (a b : Told) → Looks whole most a b → reads b.log ≡ reads a.log
same_reads whole most a b looks = ap reads (looks.grew ∙ ap (λ (l : List Act). l ++ a.log) looks.are.2) ∙ reads_asked looks.are.0 a.log

pub sought_log : (whole : Bool) (most : ℕ) (a b : Told) (seeks : Seeks whole most a b) → b.log ≡ replicate seeks.are.0 Asked ++ (Synced ∷ a.log)
sought_log whole most a b seeks = seeks.grew ∙ ap (λ (l : List Act). l ++ a.log) seeks.are.2 ∙ append_assoc (replicate seeks.are.0 Asked) (Synced ∷ []) a.log

pub sought_reads : (whole : Bool) (most : ℕ) (a b : Told) → Seeks whole most a b → reads b.log ≡ reads a.log
sought_reads whole most a b seeks = ap reads (sought_log whole most a b seeks) ∙ reads_asked seeks.are.0 (Synced ∷ a.log)

-- a read of so many bytes, as a piece of the rest of the image
pub read_front : (image : List ℕ) (at n m : ℕ) (buf : List ℕ) → length buf ≡ m → IsRead image at n buf → (n ≡ min m (length (drop at image))) × (take n buf ≡ take n (drop at image))
read_front image at n m buf long read = (omega (arith, long, read.count, length-drop at image), read.bytes)

module _ (rest buf : List ℕ) (n m : ℕ) (long : length buf ≡ m) (count : n ≡ min m (length rest)) (bytes : take n buf ≡ take n rest) where
  -- all of the bytes
  pub held : m ≤ n → Holds true m buf rest
  held le =
      let all : n ≡ m = omega (arith, count, le) in
      sym (take-append-drop m rest) ∙ ap (λ (l : List ℕ). l ++ drop m rest) (sym (ap (λ k. take k rest) all) ∙ sym bytes ∙ take_all n buf (omega (arith, long, all)))

  pub short : n < m → length rest < m
  short lt = omega (arith, count, lt)

  pub starts : n ≡ m → take m rest ≡ buf
  starts all = sym (ap (λ k. take k rest) all) ∙ sym bytes ∙ take_all n buf (omega (arith, long, all))

-- the header is there where 16 bytes are, and are its own
pub header_there : (image buf : List ℕ) (n : ℕ) → length buf ≡ header_length → IsRead image 0 n buf → (there : Bool) → (IsTrue there ↔ ((n ≡ header_length) × (buf ≡ header))) → IsTrue there ↔ HasHeader image
header_there image buf n long read there same =
    let f = read_front image 0 n header_length buf long read in
    let front : n ≡ header_length → take header_length image ≡ buf = λ all. starts image buf n header_length long (omega (arith, read.count, long)) f.1 all in (
      λ t. let both = same.0 t in front both.0 ∙ both.1,
      λ is. let all : n ≡ header_length = omega (arith, read.count, long, ap length is, length-take header_length image) in same.1 (all, sym (front all) ∙ is),
    )

-- whether they are there is whether enough were read
pub holds_by : (rest buf : List ℕ) (n m : ℕ) (long : length buf ≡ m) (count : n ≡ min m (length rest)) (bytes : take n buf ≡ take n rest) → Holds (nat_le m n) m buf rest
holds_by rest buf n m long count bytes = ⊎_elim
    (λ lt. subst (λ w. Holds w m buf rest) (sym (lt-leb m n lt)) (short rest buf n m long count bytes lt))
    (λ le. subst (λ w. Holds w m buf rest) (sym (le-leb m n le)) (held rest buf n m long count bytes le))
    (cases_lt n m)

-- five bytes that are an open gate and a length
pub head_payload : (head rest : List ℕ) (n count : ℕ) → length head ≡ record_overhead → ((i : ℕ) → get_or head i 0 < 256) → count ≡ min record_overhead (length rest) → take count head ≡ take count rest → record_overhead ≤ count → get_or head 0 0 ≡ open_gate
    → n ≡ from_be_bytes w32 (get_or head 1 0 ∷ get_or head 2 0 ∷ get_or head 3 0 ∷ get_or head 4 0 ∷ []) → (more : List ℕ) × (rest ≡ open_gate ∷ (to_be_bytes w32 n ++ more))
head_payload (g ∷ a ∷ b ∷ c ∷ d ∷ []) rest n count long bytes is same five gate number =
    let head = g ∷ a ∷ b ∷ c ∷ d ∷ [] in
    let front : take record_overhead rest ≡ g ∷ a ∷ b ∷ c ∷ d ∷ [] = starts rest (g ∷ a ∷ b ∷ c ∷ d ∷ []) count record_overhead long is same (omega (arith, is, five)) in
    let four : to_be_bytes w32 n ≡ a ∷ b ∷ c ∷ d ∷ [] = be_bytes_4 (a ∷ b ∷ c ∷ d ∷ []) n refl (λ i. bytes (suc i)) number in (
      drop record_overhead rest,
      sym (take-append-drop record_overhead rest) ∙ ap (λ (l : List ℕ). l ++ drop record_overhead rest) front ∙ ap (λ k. k ∷ (a ∷ b ∷ c ∷ d ∷ drop record_overhead rest)) gate ∙ ap (λ (l : List ℕ). open_gate ∷ (l ++ drop record_overhead rest)) (sym four),
    )
head_payload [] rest n count long bytes is same five gate number = absurd (omega (arith, long))
head_payload (g ∷ []) rest n count long bytes is same five gate number = absurd (omega (arith, long))
head_payload (g ∷ a ∷ []) rest n count long bytes is same five gate number = absurd (omega (arith, long))
head_payload (g ∷ a ∷ b ∷ []) rest n count long bytes is same five gate number = absurd (omega (arith, long))
head_payload (g ∷ a ∷ b ∷ c ∷ []) rest n count long bytes is same five gate number = absurd (omega (arith, long))
head_payload (g ∷ a ∷ b ∷ c ∷ d ∷ e ∷ more) rest n count long bytes is same five gate number = absurd (omega (arith, long))

module _ (image : List ℕ) (place n : ℕ) (more : List ℕ) (is : drop place image ≡ open_gate ∷ (to_be_bytes w32 n ++ more)) where
  after : drop (place + record_overhead) image ≡ more
  after =
      sym (drop-drop record_overhead place image)
      ∙ ap (λ (l : List ℕ). drop record_overhead l) is

  -- the payload stands after them
  pub record_there : (buffer : List ℕ) → length buffer ≡ n → Holds true n buffer (drop (place + record_overhead) image) → (rest : List ℕ) × (drop place image ≡ record_of buffer ++ rest)
  record_there buffer long holds = (
    drop n more,
    is
        ∙ ap (λ k. open_gate ∷ (to_be_bytes w32 k ++ more)) (sym long)
        ∙ ap (λ (l : List ℕ). open_gate ∷ (to_be_bytes w32 (length buffer) ++ l)) (sym after ∙ holds ∙ ap (λ (l : List ℕ). buffer ++ drop n l) after)
        ∙ sym (append_assoc (open_gate ∷ to_be_bytes w32 (length buffer)) buffer (drop n more)),
  )

  -- it does not
  pub record_short : (buffer : List ℕ) → n ≤ longest_payload → Holds false n buffer (drop (place + record_overhead) image) → NoRecord (drop place image)
  record_short buffer few holds = subst NoRecord (sym is) (refl, inr (inr (inr (omega (arith, holds, ap length after, from_be_bytes-to_be_bytes_4 n (omega (arith, few)))))))

pub no_fault_same : (A B : Type 0) (e : ResumeFault) → no_fault {T = A} (Err e) ≡ no_fault {T = B} (Err e)
no_fault_same A B resume_faults.SiteFault = refl
no_fault_same A B resume_faults.NoHeader = refl
no_fault_same A B (resume_faults.Damaged place) = refl
no_fault_same A B resume_faults.NoMemory = refl

-- the second question failed, or wasn't asked for want of memory
pub second_failed : (A : Type 0) (e : ResumeFault) (result : Result Next ResumeFault) (P : Next → Type 0) → IsErrAnd result (λ f. f ≡ e) → (a b c : Told) → Looks true 1 a b → Looks (no_fault {T = A} (Err e)) 1 b c → Looks (no_fault result) 2 a c × IfOk result P
second_failed A e (Ok v) P is a b c p q = absurd is
second_failed A e (Err f) P is a b c p q = (subst (λ w. Looks w 2 a c) (no_fault_same A Next e ∙ ap (λ g. no_fault {T = Next} (Err g)) (sym is)) (looks_on (no_fault {T = A} (Err e)) 1 1 2 a b c (omega arith) p q), tt)

module _ (place n : ℕ) (next : Next) (is : next ≡ nexts.Payload n) (buffer : List ℕ) (whole : Bool) (x y z : Told) (first : Looks true 1 x y × HeadIs (drop place (reads x.log)) next) (second : Looks true 1 y z × Holds whole n buffer (drop (place + record_overhead) (reads y.log))) where
  head : HeadIs (drop place (reads x.log)) (nexts.Payload n)
  head = subst (HeadIs (drop place (reads x.log))) is first.1

  holds : (w : Bool) → whole ≡ w → Holds w n buffer (drop (place + record_overhead) (reads x.log))
  holds w same = subst (λ v. Holds v n buffer (drop (place + record_overhead) (reads x.log))) same (subst (λ (l : List ℕ). Holds whole n buffer (drop (place + record_overhead) l)) (same_reads true 1 x y first.0) second.1)

  pub then_there : whole ≡ true → length buffer ≡ n → Looks true 2 x z × NextIs (drop place (reads x.log)) buffer (nexts.Payload n)
  then_there all long = (looks_on true 1 1 2 x y z (omega arith) first.0 second.0, record_there (reads x.log) place n head.0 head.1 buffer long (holds true all))

  pub then_short : whole ≡ false → n ≤ longest_payload → Looks true 2 x z × NextIs (drop place (reads x.log)) buffer nexts.Damage
  then_short some few = (looks_on true 1 1 2 x y z (omega arith) first.0 second.0, record_short (reads x.log) place n head.0 head.1 buffer few (holds false some))

pub sized_payload : (next : Next) (n : ℕ) → next ≡ nexts.Payload n → IsSized next → n ≤ longest_payload
sized_payload next n is sized = (subst IsSized is sized).1
