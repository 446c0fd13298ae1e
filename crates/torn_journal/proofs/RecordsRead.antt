-- The records that were read so far, and what stands after them.
use Rattle.std.proofs.Common.{◌≡◌, ◌⊎◌, inl, inr, ℕ, ◌+◌, ◌*◌, ◌<◌, ◌≤◌, Bool, true, false, List, [], ◌∷◌, ◌++◌, length, drop, sym, ◌∙◌, ap, subst, Ok, Err, Result, Option, Some, None, arith, take-append-drop, length-append}
use Rattle.std.specs.Prelude.{◌↔◌, is_ok, IsTrue, IfOk, IfSome, IsErrAnd}
use Rattle.std.specs.Result.{IsErr}
use Rattle.std.specs.Int.{to_be_bytes, w32}
use Rattle.std.specs.List.{All}
use Rattle.std.proofs.lemmas.List.{drop_at}
use Rattle.site_core.specs.Log.{Act, reads}
use Rattle.site_core.specs.Told.{Told, Goes, Syncs}
use Rattle.torn_journal.specs.declared.faults.ResumeFault.{ResumeFault}
use Rattle.torn_journal.specs.declared.faults.ResumeFault.TheVariants as faults
use Rattle.torn_journal.specs.declared.reading.Next.{Next}
use Rattle.torn_journal.specs.declared.reading.Next.TheVariants as nexts
use Rattle.torn_journal.specs.Damage.{NoRecord, IsRefused, all_but_last, IsDamaged}
use Rattle.torn_journal.specs.Journal.{record_of, front_of, gate_of, HasHeader, IsPayload, IsJournal}
use Rattle.torn_journal.specs.Limits.{header_length, record_overhead, greatest_tail}
use Rattle.torn_journal.specs.Reading.{Looks, Seeks, NextIs, IsReadFault}
use Rattle.torn_journal.specs.Resume.{HasLooked, Opens, Says, no_fault}
use Rattle.torn_journal.specs.Visits.{AllFollow}
use Rattle.torn_journal.proofs.Fronts.{front_of-push, gate_of-push}
use Rattle.torn_journal.proofs.NothingChanged.{looked, sync_failed}
use Rattle.torn_journal.proofs.OneList.{reached_few}
use Rattle.torn_journal.proofs.Questions.{synced_first, seeks_on, sought_reads, no_fault_same}

-- the image begins with the header and the records of these payloads
abbrev pub Begins : List ℕ → List (List ℕ) → Type 0
Begins image payloads = (rest : List ℕ) × (image ≡ front_of payloads ++ rest)

-- a sync, two questions for each record that was read, and one for the header
abbrev pub Reaches : List (List ℕ) → Told → Told → Type 0
Reaches payloads old new = Seeks true (2 * length payloads + 1) old new × Begins (reads old.log) payloads

-- the payloads that the visitor was handed
pub record Reached (follows : List (List ℕ) → List ℕ → Type 0) (stands : List (List ℕ) → Type 0) (place : ℕ) (old new : Option Told) : Type 0 where
  pub payloads : List (List ℕ)
  pub stood : stands payloads
  pub each : All IsPayload payloads
  pub followed : AllFollow follows payloads
  pub at : place ≡ gate_of payloads
  pub near : gate_of (all_but_last payloads) < greatest_tail
  pub told : Goes old new (Reaches payloads)

-- what calls say of the site before them
pub known : (K : Told → Type 0) (P : Told → Told → Type 0) (a b : Option Told) → ((x y : Told) → P x y → K x) → Goes a b P → IfSome a K
known K P None b f p = tt
known K P (Some x) None f p = absurd p
known K P (Some x) (Some y) f p = f x y p

-- the header alone
pub at_first : (image : List ℕ) → HasHeader image → Begins image []
at_first image there = (drop header_length image, sym (take-append-drop header_length image) ∙ ap (λ (l : List ℕ). l ++ drop header_length image) there)

module _ (payloads : List (List ℕ)) (place : ℕ) (at : place ≡ gate_of payloads) (each : All IsPayload payloads) (x y z : Told) (reach : Reaches payloads x y) where
  -- what stands at the place
  pub rest_is : drop place (reads x.log) ≡ reach.1.0
  rest_is = ap (λ (l : List ℕ). drop place l) reach.1.1 ∙ drop_at (front_of payloads) reach.1.0 place (sym at)

  here : (payload : List ℕ) (next : Next) → NextIs (drop place (reads y.log)) payload next → NextIs reach.1.0 payload next
  here payload next is = subst (λ (l : List ℕ). NextIs l payload next) (ap (λ (l : List ℕ). drop place l) (sought_reads true _ x y reach.0) ∙ rest_is) is

  bound : (ps : List (List ℕ)) → IsJournal (reads x.log) ps → length payloads ≤ length ps
  bound ps journal = reached_few (reads x.log) reach.1.0 payloads ps reach.1.1 each journal

  -- the questions so far, and up to two more
  pub looked_on : (whole : Bool) → Looks whole 2 y z → HasLooked whole x z
  looked_on whole looks =
      looked whole (2 * length payloads + 3) x z (seeks_on whole (2 * length payloads + 1) 2 (2 * length payloads + 3) x y z (omega arith) reach.0 looks)
      (λ ps journal. omega (arith, bound ps journal))

  pub looked_so_far : HasLooked true x y
  looked_so_far = looked true (2 * length payloads + 1) x y reach.0 (λ ps journal. omega (arith, bound ps journal))

  -- a tail gate
  pub tail_here : (payload : List ℕ) → place < greatest_tail → NextIs (drop place (reads y.log)) payload nexts.Tail → IsJournal (reads x.log) payloads
  tail_here payload small is =
      let gate = here payload nexts.Tail is in
      record {
        gate = gate.0;
        rest = gate.1;
        is = reach.1.1 ∙ ap (λ (l : List ℕ). front_of payloads ++ l) gate.2;
        shut = gate.3;
        each = each;
        small = omega (arith, small, at);
      }

  -- one record more
  pub record_here : (payload : List ℕ) (n : ℕ) → NextIs (drop place (reads y.log)) payload (nexts.Payload n) → (more : List ℕ) × (reach.1.0 ≡ record_of payload ++ more)
  record_here payload n is = here payload (nexts.Payload n) is

  pub reached_more : (payload : List ℕ) (n : ℕ) → Looks true 2 y z → NextIs (drop place (reads y.log)) payload (nexts.Payload n) → Reaches (payloads ++ payload ∷ []) x z
  reached_more payload n looks is =
      let found = record_here payload n is in (
        seeks_on true (2 * length payloads + 1) 2 (2 * length (payloads ++ payload ∷ []) + 1) x y z (omega (arith, length-append payloads (payload ∷ []))) reach.0 looks,
        (found.0, reach.1.1 ∙ ap (λ (l : List ℕ). front_of payloads ++ l) found.1 ∙ sym (front_of-push payloads payload found.0)),
      )

  module _ (follows : List (List ℕ) → List ℕ → Type 0) (followed : AllFollow follows payloads) (near : gate_of (all_but_last payloads) < greatest_tail) where
    damaged_by : (greatest_tail ≤ place) ⊎ (NoRecord reach.1.0 ⊎ IsRefused follows payloads reach.1.0) → IsDamaged follows (reads x.log) place
    damaged_by bad = record {
      payloads = payloads;
      rest = reach.1.0;
      is = reach.1.1;
      at = at;
      each = each;
      followed = followed;
      near = near;
      bad = bad;
    }

    -- no record
    pub damage_here : (payload : List ℕ) → NextIs (drop place (reads y.log)) payload nexts.Damage → IsDamaged follows (reads x.log) place
    damage_here payload is = damaged_by (inr (inl (here payload nexts.Damage is)))

    -- a payload that is refused
    pub refused_here : (payload : List ℕ) (n : ℕ) → NextIs (drop place (reads y.log)) payload (nexts.Payload n) → IsPayload payload → (follows payloads payload → ⊥) → IsDamaged follows (reads x.log) place
    refused_here payload n is sized refused = let found = record_here payload n is in damaged_by (inr (inr (payload, found.0, found.1, sized, refused)))

    -- a place that is too far
    pub far_here : greatest_tail ≤ place → IsDamaged follows (reads x.log) place
    far_here far = damaged_by (inl far)

-- the place after one record more
pub place_after : (payloads : List (List ℕ)) (payload : List ℕ) (place n : ℕ) → place ≡ gate_of payloads → n ≡ length payload → place + (record_overhead + n) ≡ gate_of (payloads ++ payload ∷ [])
place_after payloads payload place n at long = omega (arith, at, long, gate_of-push payloads payload, length-append (to_be_bytes w32 (length payload)) payload)

pub at_place : (follows : List (List ℕ) → List ℕ → Type 0) (a : Option Told) (place p : ℕ) → place ≡ p → IfSome a (λ site. IsDamaged follows (reads site.log) place) → IfSome a (λ site. IsDamaged follows (reads site.log) p)
at_place follows a place p same damaged = subst (λ k. IfSome a (λ site. IsDamaged follows (reads site.log) k)) same damaged

-- a fault that another call hands on
pub no_fault_on : (A : Type 0) {B : Type 0} (e : ResumeFault) (result : Result B ResumeFault) → IsErrAnd result (λ f. f ≡ e) → no_fault {T = A} (Err e) ≡ no_fault result
no_fault_on A e (Ok v) is = absurd is
no_fault_on A {B} e (Err f) is = no_fault_same A B e ∙ ap (λ g. no_fault {T = B} (Err g)) (sym is)

-- a fault of reading says nothing of the image
pub says_nothing : (follows : List (List ℕ) → List ℕ → Type 0) (stands : List (List ℕ) → Type 0) (told : Option Told) (e : ResumeFault) (result : Result ℕ ResumeFault) → IsErrAnd result (λ f. f ≡ e) → IsReadFault e → Says follows stands told result
says_nothing follows stands told e (Ok tail) is only = absurd is
says_nothing follows stands told e (Err faults.SiteFault) is only = tt
says_nothing follows stands told e (Err faults.NoMemory) is only = tt
says_nothing follows stands told e (Err faults.NoHeader) is only = absurd (subst IsReadFault (sym is) only)
says_nothing follows stands told e (Err (faults.Damaged place)) is only = absurd (subst IsReadFault (sym is) only)

-- the sync failed
pub not_synced : {E F : Type 0} (e : E) (result : Result Bool F) → IsErr result → (x y : Told) → Syncs {T = Unit {0}} (Err e) x y → Opens result x y
not_synced e (Ok there) err x y call = absurd cc
not_synced e (Err f) err x y call = sync_failed e x y call

-- the header was asked for after the sync
pub then_asked : {E F : Type 0} (u : Unit {0}) (result : Result Bool F) (x y z : Told) → Syncs {E = E} (Ok u) x y → Looks (is_ok result) 1 y z × IfOk result (λ there. IsTrue there ↔ HasHeader (reads y.log)) → Opens result x z
then_asked {E} u (Ok there) x y z call asked =
    (synced_first {E = E} u true 1 x y z call asked.0, subst (λ (l : List ℕ). IsTrue there ↔ HasHeader l) (ap reads (call.ran.grew ∙ ap (λ (l : List Act). l ++ x.log) call.ran.are)) asked.1)
then_asked {E} u (Err f) x y z call asked = looked false 1 x z (synced_first {E = E} u false 1 x y z call asked.0) (λ ps journal. omega arith)
