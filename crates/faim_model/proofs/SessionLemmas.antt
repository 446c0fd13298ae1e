-- Sessions join, and keep what a step keeps.
use Rattle.std.proofs.Common.{◌≡◌, ◌⊎◌, ⊎_elim, inl, inr, refl, sym, ap, subst, ◌∙◌, ℕ, suc, ◌+◌, ◌<◌, ◌≤◌, List, [], ◌∷◌, ◌++◌, append_assoc, append-nil, length, map, Option, Some, None, arith}
use Rattle.std.specs.List.{AllByRecursion, Contains}
use Rattle.std.proofs.lemmas.List.{length-append, map-append}
use Rattle.std.proofs.lemmas.List.Elements.{Contains-append_cases, Contains-append_left, Contains-append_right}
use Rattle.faim_base.specs.Numbers.{IsMoment}
use Rattle.host_ledger.specs.declared.config.Config.{Config}
use Rattle.host_ledger.specs.declared.entries.Entry.{Entry}
use Rattle.link_frames.specs.Frames.{Content as Frame}
use Rattle.faim_model.specs.Lawful.{Lawful, last_moment}
use Rattle.faim_model.specs.Turns.{adds_to}
use Rattle.faim_model.specs.Frames.{Covered, ack_of}
use Rattle.faim_model.specs.Sending.{frames_of, resume_frames, unmarked}
use Rattle.faim_model.specs.Steps.{HostStep, host_step}
use Rattle.faim_model.specs.Sessions.{Arrival, IsArrival, entries_after, entries_with, frames_at, recent_after, recent_with, session_frames}
use Rattle.faim_model.proofs.Covering.{covered_by_longer}
use Rattle.faim_model.proofs.Drawn.{from_map, into_map}
use Rattle.faim_model.proofs.Exact.{ack_sent}
use Rattle.faim_model.proofs.Members.{first_or_later}
use Rattle.faim_model.proofs.Outcomes.{sends_own}
use Rattle.faim_model.proofs.SendingLemmas.{frames_alike, resume_covered}
use Rattle.faim_model.proofs.Stepping.{step_covered, step_in_calendar, step_lawful}

module _ (c : Config) where
  -- sessions join
  pub entries_join : (es : List Entry) (xs ys : List Arrival) → entries_after c es (xs ++ ys) ≡ entries_after c (entries_after c es xs) ys
  entries_join es [] ys = refl
  entries_join es (a ∷ xs) ys = entries_join (entries_with c es a) xs ys

  pub frames_join : (es : List Entry) (xs ys : List Arrival) → frames_at c es (xs ++ ys) ≡ frames_at c es xs ++ frames_at c (entries_after c es xs) ys
  frames_join es [] ys = refl
  frames_join es (a ∷ xs) ys =
      ap (λ (l : List Frame). (host_step c es a.frame a.reading).sends ++ l) (frames_join (entries_with c es a) xs ys)
      ∙ sym (append_assoc (host_step c es a.frame a.reading).sends (frames_at c (entries_with c es a) xs) (frames_at c (entries_after c (entries_with c es a) xs) ys))

  pub recent_join : (es : List Entry) (r : ℕ) (xs ys : List Arrival)
      → recent_after c es r (xs ++ ys) ≡ recent_after c (entries_after c es xs) (recent_after c es r xs) ys
  recent_join es r [] ys = refl
  recent_join es r (a ∷ xs) ys = recent_join (entries_with c es a) (recent_with r (host_step c es a.frame a.reading).adds) xs ys

  -- the opening list is the old end of the list after a session
  newer_with : (es : List Entry) (adds : Option Entry) → (newer : List Entry) × (adds_to adds es ≡ newer ++ es)
  newer_with es None = ([], refl)
  newer_with es (Some x) = (x ∷ [], refl)

  pub goes_on : (es : List Entry) (xs : List Arrival) → (newer : List Entry) × (entries_after c es xs ≡ newer ++ es)
  goes_on es [] = ([], refl)
  goes_on es (a ∷ xs) =
      let first = newer_with es (host_step c es a.frame a.reading).adds in
      let later = goes_on (entries_with c es a) xs in
      (later.0 ++ first.0, later.1 ∙ ap (λ (l : List Entry). later.0 ++ l) first.1 ∙ sym (append_assoc later.0 first.0 es))

  pub stays_covered : (es : List Entry) (xs : List Arrival) (g : Frame) → Covered c es g → Covered c (entries_after c es xs) g
  stays_covered es xs g covered =
      let on = goes_on es xs in subst (λ (l : List Entry). Covered c l g) (sym on.1) (covered_by_longer c es on.0 g covered)

  pub session_lawful : (es : List Entry) (xs : List Arrival) → Lawful c es → Lawful c (entries_after c es xs)
  session_lawful es [] lawful = lawful
  session_lawful es (a ∷ xs) lawful = session_lawful (entries_with c es a) xs (step_lawful c es a.frame a.reading lawful)

  pub session_in_calendar : (es : List Entry) (xs : List Arrival) → AllByRecursion IsArrival xs → IsMoment (last_moment es) → IsMoment (last_moment (entries_after c es xs))
  session_in_calendar es [] all before = before
  session_in_calendar es (a ∷ xs) all before =
      session_in_calendar (entries_with c es a) xs all.1 (step_in_calendar c es a.frame a.reading all.0.timed before)

  arrivals_covered : (es : List Entry) (xs : List Arrival) (g : Frame) → AllByRecursion IsArrival xs → IsMoment (last_moment es)
      → Contains (frames_at c es xs) g → Covered c (entries_after c es xs) g
  arrivals_covered es [] g all before there = absurd (let below : there.0 < 0 = there.1 in omega arith)
  arrivals_covered es (a ∷ xs) g all before there =
      ⊎_elim (λ (first : Contains (host_step c es a.frame a.reading).sends g).
      stays_covered (entries_with c es a) xs g (step_covered c es a.frame a.reading g all.0.sound.endpoint all.0.timed before first))
      (λ (later : Contains (frames_at c (entries_with c es a) xs) g).
      arrivals_covered (entries_with c es a) xs g all.1 (step_in_calendar c es a.frame a.reading all.0.timed before) later)
      (Contains-append_cases (host_step c es a.frame a.reading).sends (frames_at c (entries_with c es a) xs) g there)

  pub session_covered : (es : List Entry) (r : ℕ) (xs : List Arrival) (g : Frame) → AllByRecursion IsArrival xs → IsMoment (last_moment es)
      → Contains (session_frames c es r xs) g → Covered c (entries_after c es xs) g
  session_covered es r xs g all before there =
      ⊎_elim (λ (again : Contains (resume_frames c es r) g). stays_covered es xs g (resume_covered c es r g again))
      (λ (new : Contains (frames_at c es xs) g). arrivals_covered es xs g all before new)
      (Contains-append_cases (resume_frames c es r) (frames_at c es xs) g there)

  -- the last record is one of the list's
  few_with : (es : List Entry) (r : ℕ) (adds : Option Entry) → r ≤ length es → recent_with r adds ≤ length (adds_to adds es)
  few_with es r None few = few
  few_with es r (Some x) few = omega arith

  pub few_recent : (es : List Entry) (r : ℕ) (xs : List Arrival) → r ≤ length es → recent_after c es r xs ≤ length (entries_after c es xs)
  few_recent es r [] few = few
  few_recent es r (a ∷ xs) few =
      few_recent (entries_with c es a) (recent_with r (host_step c es a.frame a.reading).adds) xs (few_with es r (host_step c es a.frame a.reading).adds few)

  -- after a step a restart sends what the step sent of its entry, or what it would have sent before the step
  again_by : (es : List Entry) (r : ℕ) (adds : Option Entry) (sends : List Frame) → ((x : Entry) → adds ≡ Some x → sends ≡ frames_of c es x 32)
      → (x : Entry) → adds ≡ Some x → map unmarked (resume_frames c (adds_to adds es) (recent_with r adds)) ≡ map unmarked sends
  again_by es r None sends own x is = absurd cc
  again_by es r (Some y) sends own x is = frames_alike c es y 80 32 ∙ ap (map unmarked) (sym (own y refl))

  sent_again : (es : List Entry) (r : ℕ) (a : Arrival) (x : Entry) → (host_step c es a.frame a.reading).adds ≡ Some x
      → map unmarked (resume_frames c (entries_with c es a) (recent_with r (host_step c es a.frame a.reading).adds)) ≡ map unmarked (host_step c es a.frame a.reading).sends
  sent_again es r a x adds = again_by es r (host_step c es a.frame a.reading).adds (host_step c es a.frame a.reading).sends (sends_own c es a.frame a.reading) x adds

  sent_as_before : (es : List Entry) (r : ℕ) (a : Arrival) → (host_step c es a.frame a.reading).adds ≡ None
      → resume_frames c (entries_with c es a) (recent_with r (host_step c es a.frame a.reading).adds) ≡ resume_frames c es r
  sent_as_before es r a adds = ap (λ (o : Option Entry). resume_frames c (adds_to o es) (recent_with r o)) adds

  pub session_again : (es : List Entry) (r : ℕ) (earlier : List Arrival) (a : Arrival) (x : Entry)
      → (host_step c (entries_after c es earlier) a.frame a.reading).adds ≡ Some x
      → map unmarked (resume_frames c (entries_after c es (earlier ++ a ∷ [])) (recent_after c es r (earlier ++ a ∷ [])))
      ≡ map unmarked (host_step c (entries_after c es earlier) a.frame a.reading).sends
  session_again es r earlier a x adds =
      (λ k. map unmarked (resume_frames c (entries_join es earlier (a ∷ []) k) (recent_join es r earlier (a ∷ []) k)))
      ∙ sent_again (entries_after c es earlier) (recent_after c es r earlier) a x adds

  pub session_as_before : (es : List Entry) (r : ℕ) (earlier : List Arrival) (a : Arrival)
      → (host_step c (entries_after c es earlier) a.frame a.reading).adds ≡ None
      → resume_frames c (entries_after c es (earlier ++ a ∷ [])) (recent_after c es r (earlier ++ a ∷ []))
      ≡ resume_frames c (entries_after c es earlier) (recent_after c es r earlier)
  session_as_before es r earlier a adds =
      (λ k. resume_frames c (entries_join es earlier (a ∷ []) k) (recent_join es r earlier (a ∷ []) k))
      ∙ sent_as_before (entries_after c es earlier) (recent_after c es r earlier) a adds

  -- all that a restart sends was sent before it
  abbrev Out : List Entry → ℕ → List Frame → Type 0
  Out es r sent = (g : Frame) → Contains (resume_frames c es r) g → (h : Frame) × Contains sent h × (unmarked h ≡ unmarked g)

  out_with : (es : List Entry) (r : ℕ) (adds : Option Entry) (sends sent : List Frame) → ((x : Entry) → adds ≡ Some x → sends ≡ frames_of c es x 32)
      → Out es r sent → Out (adds_to adds es) (recent_with r adds) (sent ++ sends)
  out_with es r None sends sent own out g there = let h = out g there in (h.0, Contains-append_left sent sends h.0 h.1, h.2)
  out_with es r (Some x) sends sent own out g there =
      let alike : map unmarked (resume_frames c (x ∷ es) 1) ≡ map unmarked sends = again_by es r (Some x) sends own x refl in
      let among : Contains (map unmarked sends) (unmarked g) =
      subst (λ (l : List Frame). Contains l (unmarked g)) alike (into_map unmarked (resume_frames c (x ∷ es) 1) g there) in
      let h = from_map unmarked sends (unmarked g) among in
      (h.0, Contains-append_right sent sends h.0 h.1, h.2)

  out_after : (es : List Entry) (r : ℕ) (sent : List Frame) (xs : List Arrival) → Out es r sent → Out (entries_after c es xs) (recent_after c es r xs) (sent ++ frames_at c es xs)
  out_after es r sent [] out = subst (Out es r) (sym (append-nil sent)) out
  out_after es r sent (a ∷ xs) out =
      let s : HostStep = host_step c es a.frame a.reading in
      subst (Out (entries_after c (entries_with c es a) xs) (recent_after c (entries_with c es a) (recent_with r s.adds) xs))
      (append_assoc sent s.sends (frames_at c (entries_with c es a) xs))
      (out_after (entries_with c es a) (recent_with r s.adds) (sent ++ s.sends) xs (out_with es r s.adds s.sends sent (sends_own c es a.frame a.reading) out))

  pub resumed_was_sent : (es : List Entry) (r : ℕ) (xs : List Arrival) (g : Frame)
      → Contains (resume_frames c (entries_after c es xs) (recent_after c es r xs)) g → (h : Frame) × Contains (session_frames c es r xs) h × (unmarked h ≡ unmarked g)
  resumed_was_sent es r xs g there = out_after es r (resume_frames c es r) xs (λ k own. (k, own, refl)) g there

  -- each entry that a session adds is acknowledged
  step_acks : (es : List Entry) (a : Arrival) (x : Entry) → Contains (entries_with c es a) x
      → Contains es x ⊎ ((g : Frame) → ack_of c 32 x ≡ Some g → Contains (host_step c es a.frame a.reading).sends g)
  step_acks es a x there = by_adds (host_step c es a.frame a.reading).adds refl there
    where
      by_adds : (adds : Option Entry) → (host_step c es a.frame a.reading).adds ≡ adds → Contains (adds_to adds es) x
          → Contains es x ⊎ ((g : Frame) → ack_of c 32 x ≡ Some g → Contains (host_step c es a.frame a.reading).sends g)
      by_adds None is old = inl old
      by_adds (Some y) is among =
          ⊎_elim (λ (own : x ≡ y). inr (λ g acked.
          let sends : frames_of c es x 32 ≡ (host_step c es a.frame a.reading).sends =
          ap (λ (z : Entry). frames_of c es z 32) own ∙ sym (sends_own c es a.frame a.reading y is) in
          subst (λ (l : List Frame). Contains l g) sends (ack_sent c es 32 x g acked)))
          (λ (old : Contains es x). inl old) (first_or_later y x es among)

  pub new_acks : (es : List Entry) (xs : List Arrival) (x : Entry) → Contains (entries_after c es xs) x
      → Contains es x ⊎ ((g : Frame) → ack_of c 32 x ≡ Some g → Contains (frames_at c es xs) g)
  new_acks es [] x there = inl there
  new_acks es (a ∷ xs) x there =
      let sends : List Frame = (host_step c es a.frame a.reading).sends in
      let rest : List Frame = frames_at c (entries_with c es a) xs in
      ⊎_elim (λ (first : Contains (entries_with c es a) x).
      ⊎_elim (λ (old : Contains es x). inl old)
      (λ (sent : (g : Frame) → ack_of c 32 x ≡ Some g → Contains sends g). inr (λ g acked. Contains-append_left sends rest g (sent g acked))) (step_acks es a x first))
      (λ (later : (g : Frame) → ack_of c 32 x ≡ Some g → Contains rest g). inr (λ g acked. Contains-append_right sends rest g (later g acked)))
      (new_acks (entries_with c es a) xs x there)

  pub session_join : (es : List Entry) (r : ℕ) (xs ys : List Arrival)
      → session_frames c es r (xs ++ ys) ≡ session_frames c es r xs ++ frames_at c (entries_after c es xs) ys
  session_join es r xs ys =
      ap (λ (l : List Frame). resume_frames c es r ++ l) (frames_join es xs ys)
      ∙ sym (append_assoc (resume_frames c es r) (frames_at c es xs) (frames_at c (entries_after c es xs) ys))

  -- of the last entries the oldest is sent again first
  oldest_first : (newer : List Entry) (x : Entry) (es : List Entry)
      → resume_frames c (newer ++ x ∷ es) (suc (length newer)) ≡ frames_of c es x 80 ++ resume_frames c (newer ++ x ∷ es) (length newer)
  oldest_first [] x es = sym (append-nil (frames_of c es x 80))
  oldest_first (y ∷ newer) x es =
      ap (λ (l : List Frame). l ++ frames_of c (newer ++ x ∷ es) y 80) (oldest_first newer x es)
      ∙ append_assoc (frames_of c es x 80) (resume_frames c (newer ++ x ∷ es) (length newer)) (frames_of c (newer ++ x ∷ es) y 80)

  oldest_of : (all newer : List Entry) (x : Entry) (es : List Entry) (n : ℕ) → all ≡ newer ++ x ∷ es → length newer ≡ n
      → resume_frames c all (suc n) ≡ frames_of c es x 80 ++ resume_frames c all n
  oldest_of all newer x es n is long =
      ap (λ (l : List Entry). resume_frames c l (suc n)) is
      ∙ ap (λ (k : ℕ). resume_frames c (newer ++ x ∷ es) (suc k)) (sym long)
      ∙ oldest_first newer x es
      ∙ ap (λ (k : ℕ). frames_of c es x 80 ++ resume_frames c (newer ++ x ∷ es) k) long
      ∙ ap (λ (l : List Entry). frames_of c es x 80 ++ resume_frames c l n) (sym is)

  -- each arrival adds one entry at most
  one_at_most : (es : List Entry) (adds : Option Entry) → length (adds_to adds es) ≤ length es + 1
  one_at_most es None = omega arith
  one_at_most es (Some x) = omega arith

  few_added : (es : List Entry) (xs : List Arrival) → length (entries_after c es xs) ≤ length es + length xs
  few_added es [] = omega arith
  few_added es (a ∷ xs) =
      let rest : length (entries_after c (entries_with c es a) xs) ≤ length (entries_with c es a) + length xs = few_added (entries_with c es a) xs in
      let first : length (entries_with c es a) ≤ length es + 1 = one_at_most es (host_step c es a.frame a.reading).adds in
      omega (arith, rest, first)

  -- where each arrival adds one, their frames are sent again in their order
  each_again : (es : List Entry) (adds : Option Entry) (sends : List Frame) (xs : List Arrival) → ((x : Entry) → adds ≡ Some x → sends ≡ frames_of c es x 32)
      → length (entries_after c (adds_to adds es) xs) ≡ length es + suc (length xs)
      → (length (entries_after c (adds_to adds es) xs) ≡ length (adds_to adds es) + length xs
      → map unmarked (resume_frames c (entries_after c (adds_to adds es) xs) (length xs)) ≡ map unmarked (frames_at c (adds_to adds es) xs))
      → map unmarked (resume_frames c (entries_after c (adds_to adds es) xs) (suc (length xs))) ≡ map unmarked (sends ++ frames_at c (adds_to adds es) xs)
  each_again es None sends xs own long later = absurd (let few = few_added es xs in omega (arith, few, long))
  each_again es (Some x) sends xs own long later =
      let on = goes_on (x ∷ es) xs in
      let all : List Entry = entries_after c (x ∷ es) xs in
      let parts : length all ≡ length on.0 + suc (length es) = ap length on.1 ∙ length-append on.0 (x ∷ es) in
      let newer : length on.0 ≡ length xs = omega (arith, parts, long) in
      ap (map unmarked) (oldest_of all on.0 x es (length xs) on.1 newer)
      ∙ map-append unmarked (frames_of c es x 80) (resume_frames c all (length xs))
      ∙ (λ k. (frames_alike c es x 80 32 ∙ ap (map unmarked) (sym (own x refl))) k ++ later (omega (arith, long)) k)
      ∙ sym (map-append unmarked sends (frames_at c (x ∷ es) xs))

  pub all_again : (es : List Entry) (xs : List Arrival) → length (entries_after c es xs) ≡ length es + length xs
      → map unmarked (resume_frames c (entries_after c es xs) (length xs)) ≡ map unmarked (frames_at c es xs)
  all_again es [] long = refl
  all_again es (a ∷ xs) long =
      each_again es (host_step c es a.frame a.reading).adds (host_step c es a.frame a.reading).sends xs (sends_own c es a.frame a.reading) long
      (all_again (entries_with c es a) xs)
