-- What comes up to the tail gate, what one payload more adds to it, and what stands after it.
use Rattle.std.proofs.Common.{◌≡◌, ℕ, ◌+◌, List, [], ◌∷◌, ◌++◌, length, refl, sym, ◌∙◌, ap, subst, arith, append_assoc, length-append}
use Rattle.std.proofs.lemmas.List.{append-nil, append_cancel_left}
use Rattle.std.specs.Int.{to_be_bytes, w32}
use Rattle.torn_journal.specs.Damage.{all_but_last}
use Rattle.torn_journal.specs.Journal.{header, closed_gate, record_of, records_of, framed_of, front_of, gate_of, tail_of}
use Rattle.torn_journal.specs.Visits.{FollowsFrom, AllFollow}

-- more payloads after some
pub records_of-append : (ps qs : List (List ℕ)) (rest : List ℕ) → records_of (ps ++ qs) ++ rest ≡ records_of ps ++ (records_of qs ++ rest)
records_of-append [] qs rest = append_assoc [] (records_of qs) rest
records_of-append (p ∷ ps) qs rest =
    append_assoc (record_of p) (records_of (ps ++ qs)) rest
    ∙ ap (λ (l : List ℕ). record_of p ++ l) (records_of-append ps qs rest)
    ∙ sym (append_assoc (record_of p) (records_of ps) (records_of qs ++ rest))

pub front_of-append : (ps qs : List (List ℕ)) (rest : List ℕ) → front_of (ps ++ qs) ++ rest ≡ front_of ps ++ (records_of qs ++ rest)
front_of-append ps qs rest =
    append_assoc header (records_of (ps ++ qs)) rest
    ∙ ap (λ (l : List ℕ). header ++ l) (records_of-append ps qs rest)
    ∙ sym (append_assoc header (records_of ps) (records_of qs ++ rest))

-- one payload more
pub front_of-push : (payloads : List (List ℕ)) (payload rest : List ℕ) → front_of (payloads ++ payload ∷ []) ++ rest ≡ front_of payloads ++ (record_of payload ++ rest)
front_of-push payloads payload rest =
    front_of-append payloads (payload ∷ []) rest ∙ ap (λ (l : List ℕ). front_of payloads ++ (l ++ rest)) (append-nil (record_of payload))

pub gate_of-push : (payloads : List (List ℕ)) (payload : List ℕ) → gate_of (payloads ++ payload ∷ []) ≡ gate_of payloads + length (record_of payload)
gate_of-push payloads payload =
    omega (arith, ap length (front_of-push payloads payload []), length-append (front_of (payloads ++ payload ∷ [])) [], length-append (front_of payloads) (record_of payload ++ []), length-append (record_of payload) [])

-- what is framed is as long as the record
length-framed_of : (payload : List ℕ) → length (framed_of payload) ≡ length (record_of payload)
length-framed_of payload = omega (arith, length-append (to_be_bytes w32 (length payload) ++ payload) (closed_gate ∷ []), length-append (to_be_bytes w32 (length payload)) payload)

pub tail_of-push : (payloads : List (List ℕ)) (payload : List ℕ) → tail_of (payloads ++ payload ∷ []) ≡ tail_of payloads + length (framed_of payload)
tail_of-push payloads payload = omega (arith, gate_of-push payloads payload, length-framed_of payload)

pub all_but_last-push : (ps : List (List ℕ)) (p : List ℕ) → all_but_last (ps ++ p ∷ []) ≡ ps
all_but_last-push [] p = refl
all_but_last-push (q ∷ []) p = refl
all_but_last-push (q ∷ (r ∷ ps)) p = ap (λ (l : List (List ℕ)). q ∷ l) (all_but_last-push (r ∷ ps) p)

module _ (follows : List (List ℕ) → List ℕ → Type 0) where
  follows_from-push : (before ps : List (List ℕ)) (p : List ℕ) → FollowsFrom follows before ps → follows (before ++ ps) p → FollowsFrom follows before (ps ++ p ∷ [])
  follows_from-push before [] p all last = (subst (λ (l : List (List ℕ)). follows l p) (append-nil before) last, tt)
  follows_from-push before (q ∷ ps) p all last = (all.0, follows_from-push (before ++ q ∷ []) ps p all.1 (subst (λ (l : List (List ℕ)). follows l p) (sym (append_assoc before (q ∷ []) ps)) last))

  pub all_follow-push : (ps : List (List ℕ)) (p : List ℕ) → AllFollow follows ps → follows ps p → AllFollow follows (ps ++ p ∷ [])
  all_follow-push ps p all last = follows_from-push [] ps p all last

-- two ways to read one image
pub same_records : (ps qs : List (List ℕ)) (rest more : List ℕ) → front_of ps ++ rest ≡ front_of qs ++ more → records_of ps ++ rest ≡ records_of qs ++ more
same_records ps qs rest more same =
    append_cancel_left header (records_of ps ++ rest) (records_of qs ++ more) (sym (append_assoc header (records_of ps) rest) ∙ same ∙ append_assoc header (records_of qs) more)

-- what stands where the first of two readings ends and the other goes on
pub next_record : (ps more : List (List ℕ)) (p rest after : List ℕ) → front_of ps ++ rest ≡ front_of (ps ++ p ∷ more) ++ after → rest ≡ record_of p ++ (records_of more ++ after)
next_record ps more p rest after same =
    append_cancel_left (front_of ps) rest (records_of (p ∷ more) ++ after) (same ∙ front_of-append ps (p ∷ more) after) ∙ append_assoc (record_of p) (records_of more) after
