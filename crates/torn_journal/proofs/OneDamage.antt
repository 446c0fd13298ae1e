-- A journal of payloads that follow one another is damaged nowhere, and no image is damaged at two places.
use Rattle.std.proofs.Common.{◌≡◌, ⊎_elim, ℕ, ◌<◌, ◌≤◌, List, [], ◌∷◌, ◌++◌, length, take, refl, sym, ◌∙◌, ap, subst, arith, append_assoc, length-append}
use Rattle.std.proofs.lemmas.List.{append-nil, append_cancel_left, take_at}
use Rattle.std.proofs.lemmas.List.Elements.{All-head, All-tail}
use Rattle.std.proofs.lemmas.Nat.{from_be_bytes-to_be_bytes_4}
use Rattle.std.specs.Int.{to_be_bytes, from_be_bytes, w32}
use Rattle.std.specs.List.{All}
use Rattle.torn_journal.specs.Damage.{NoRecord, all_but_last, IsDamaged, IsSound}
use Rattle.torn_journal.specs.Journal.{header, record_of, records_of, front_of, gate_of, HasHeader, IsPayload, IsJournal}
use Rattle.torn_journal.specs.Limits.{header_length, greatest_tail}
use Rattle.torn_journal.specs.Visits.{FollowsFrom, AllFollow}
use Rattle.torn_journal.proofs.Fronts.{front_of-append, next_record}
use Rattle.torn_journal.proofs.OneList.{same_payload, Compared, compared_fronts, ends_here}
use Rattle.torn_journal.proofs.OneList.Compared.{equal, longer, shorter}

begins : (payloads : List (List ℕ)) (rest image : List ℕ) → image ≡ front_of payloads ++ rest → HasHeader image
begins payloads rest image is = ap (λ (l : List ℕ). take header_length l) (is ∙ append_assoc header (records_of payloads) rest) ∙ take_at header (records_of payloads ++ rest) header_length refl

-- a journal begins with the header
pub journal_header : (image : List ℕ) (payloads : List (List ℕ)) → IsJournal image payloads → HasHeader image
journal_header image payloads journal = begins payloads (journal.gate ∷ journal.rest) image journal.is

-- the payload between others is one
payload_between : (before : List (List ℕ)) (payload : List ℕ) (more : List (List ℕ)) → All IsPayload (before ++ payload ∷ more) → IsPayload payload
payload_between [] payload more each = All-head IsPayload payload more each
payload_between (p ∷ before) payload more each = payload_between before payload more (All-tail IsPayload p (before ++ payload ∷ more) each)

-- the gates go up
gate_before_last : (before : List (List ℕ)) (payload : List ℕ) (more : List (List ℕ)) → length (records_of before) ≤ length (records_of (all_but_last (before ++ payload ∷ more)))
gate_before_last [] payload more = omega arith
gate_before_last (p ∷ []) payload more = omega (arith, length-append (record_of p) [], length-append (record_of p) (records_of (all_but_last (payload ∷ more))))
gate_before_last (p ∷ (q ∷ before)) payload more =
    omega (arith, gate_before_last (q ∷ before) payload more, length-append (record_of p) (records_of (q ∷ before)), length-append (record_of p) (records_of (all_but_last ((q ∷ before) ++ payload ∷ more))))

near_before_last : (before : List (List ℕ)) (payload : List ℕ) (more : List (List ℕ)) → gate_of (all_but_last (before ++ payload ∷ more)) < greatest_tail → gate_of before < greatest_tail
near_before_last before payload more near =
    omega (arith, near, gate_before_last before payload more, length-append header (records_of before), length-append header (records_of (all_but_last (before ++ payload ∷ more))))

gate_before : (before : List (List ℕ)) (payload : List ℕ) (more : List (List ℕ)) → gate_of before ≤ gate_of (before ++ payload ∷ more)
gate_before before payload more =
    omega (arith, ap length (front_of-append before (payload ∷ more) []), length-append (front_of (before ++ payload ∷ more)) [], length-append (front_of before) (records_of (payload ∷ more) ++ []))

-- the number that is written before a payload is its length
length_written : (payload : List ℕ) → IsPayload payload → from_be_bytes w32 (to_be_bytes w32 (length payload)) ≡ length payload
length_written payload sized = from_be_bytes-to_be_bytes_4 (length payload) (omega (arith, sized.most))

whole_record : (payload more : List ℕ) → IsPayload payload → NoRecord (record_of payload ++ more) → ⊥
whole_record payload more sized none =
    let number = length_written payload sized in
    let long = length-append payload more in
    ⊎_elim
    (λ short. omega (arith, short))
    (λ bad. ⊎_elim
    (λ zero. omega (arith, zero, number, sized.some))
    (λ wrong. ⊎_elim (λ high. omega (arith, high, number, sized.most)) (λ past. omega (arith, past, number, long)) wrong)
    bad)
    none.1

module _ (follows : List (List ℕ) → List ℕ → Type 0) where
  follows_between : (first before : List (List ℕ)) (payload : List ℕ) (more : List (List ℕ)) → FollowsFrom follows first (before ++ payload ∷ more) → follows (first ++ before) payload
  follows_between first [] payload more all = subst (λ (l : List (List ℕ)). follows l payload) (sym (append-nil first)) all.0
  follows_between first (p ∷ before) payload more all =
      subst (λ (l : List (List ℕ)). follows l payload) (append_assoc first (p ∷ []) before) (follows_between (first ++ p ∷ []) before payload more all.1)

  -- where a reading goes on with a payload that follows, there is no damage
  goes_on_here : (image : List ℕ) (place : ℕ) (damaged : IsDamaged follows image place) (payload : List ℕ) (more : List (List ℕ)) (rest : List ℕ)
      → image ≡ front_of (damaged.payloads ++ payload ∷ more) ++ rest → IsPayload payload → AllFollow follows (damaged.payloads ++ payload ∷ more) → gate_of damaged.payloads < greatest_tail → ⊥
  goes_on_here image place damaged payload more rest is sized all near =
      let next = next_record damaged.payloads more payload damaged.rest rest (sym damaged.is ∙ is) in
      ⊎_elim
      (λ far. omega (arith, far, near, damaged.at))
      (λ bad. ⊎_elim
      (λ none. whole_record payload (records_of more ++ rest) sized (subst NoRecord next none))
      (λ refused.
      let same = same_payload payload refused.0 (records_of more ++ rest) refused.1 sized.most refused.3.most (sym next ∙ refused.2) in
      refused.4 (subst (follows damaged.payloads) same (follows_between [] damaged.payloads payload more all)))
      bad)
      damaged.bad

  -- at the tail gate of a journal there is none
  ends_whole : (image : List ℕ) (place : ℕ) (damaged : IsDamaged follows image place) → IsJournal image damaged.payloads → ⊥
  ends_whole image place damaged journal =
      let next : damaged.rest ≡ journal.gate ∷ journal.rest = append_cancel_left (front_of damaged.payloads) damaged.rest (journal.gate ∷ journal.rest) (sym damaged.is ∙ journal.is) in
      ⊎_elim
      (λ far. omega (arith, far, damaged.at, journal.small))
      (λ bad. ⊎_elim
      (λ none. journal.shut (subst NoRecord next none).0)
      (λ refused. let open_now : journal.gate ∷ journal.rest ≡ record_of refused.0 ++ refused.1 = sym next ∙ refused.2 in journal.shut (cc))
      bad)
      damaged.bad

  sound_here : (image : List ℕ) (place : ℕ) (payloads : List (List ℕ)) (journal : IsJournal image payloads) → AllFollow follows payloads → (damaged : IsDamaged follows image place) → Compared damaged.payloads payloads → ⊥
  sound_here image place payloads journal all damaged (equal same) = ends_whole image place damaged (subst (IsJournal image) (sym same) journal)
  sound_here image place payloads journal all damaged (longer payload more same) =
      let is = journal.is ∙ ap (λ (l : List (List ℕ)). front_of l ++ journal.gate ∷ journal.rest) same in
      let each = subst (All IsPayload) same journal.each in
      let small : gate_of (damaged.payloads ++ payload ∷ more) < greatest_tail = omega (arith, journal.small, ap gate_of same) in
      goes_on_here image place damaged payload more (journal.gate ∷ journal.rest) is (payload_between damaged.payloads payload more each) (subst (AllFollow follows) same all)
      (omega (arith, small, gate_before damaged.payloads payload more))
  sound_here image place payloads journal all damaged (shorter v more same) = ends_here damaged.payloads payloads more v damaged.rest same image damaged.is journal

  pub undamaged : (image : List ℕ) (place : ℕ) → IsSound follows image → IsDamaged follows image place → ⊥
  undamaged image place sound damaged =
      sound_here image place sound.0 sound.1 sound.2 damaged
      (compared_fronts damaged.payloads sound.0 damaged.rest (sound.1.gate ∷ sound.1.rest) damaged.each sound.1.each (sym damaged.is ∙ sound.1.is))

  -- a reading that goes on past a damaged place
  further : (image : List ℕ) (a b : ℕ) (damaged : IsDamaged follows image a) (other : IsDamaged follows image b) (payload : List ℕ) (more : List (List ℕ)) → other.payloads ≡ damaged.payloads ++ payload ∷ more → ⊥
  further image a b damaged other payload more same =
      goes_on_here image a damaged payload more other.rest
      (other.is ∙ ap (λ (l : List (List ℕ)). front_of l ++ other.rest) same)
      (payload_between damaged.payloads payload more (subst (All IsPayload) same other.each))
      (subst (AllFollow follows) same other.followed)
      (near_before_last damaged.payloads payload more (subst (λ (l : List (List ℕ)). gate_of (all_but_last l) < greatest_tail) same other.near))

  one_of : (image : List ℕ) (a b : ℕ) (damaged : IsDamaged follows image a) (other : IsDamaged follows image b) → Compared damaged.payloads other.payloads → a ≡ b
  one_of image a b damaged other (equal same) = damaged.at ∙ ap gate_of same ∙ sym other.at
  one_of image a b damaged other (longer payload more same) = absurd (further image a b damaged other payload more same)
  one_of image a b damaged other (shorter payload more same) = absurd (further image b a other damaged payload more same)

  -- an image is damaged at one place
  pub one_damage : (image : List ℕ) (a b : ℕ) → IsDamaged follows image a → IsDamaged follows image b → a ≡ b
  one_damage image a b damaged other =
      one_of image a b damaged other (compared_fronts damaged.payloads other.payloads damaged.rest other.rest damaged.each other.each (sym damaged.is ∙ other.is))

  pub damaged_header : (image : List ℕ) (place : ℕ) → IsDamaged follows image place → HasHeader image
  damaged_header image place damaged = begins damaged.payloads damaged.rest image damaged.is
