-- What a stop at a moment of sessions leaves.
use Rattle.std.proofs.Common.{◌≡◌, ◌⊎◌, ⊎_elim, inl, inr, ℕ, ◌≤◌, Bool, true, false, List, [], ◌∷◌, ◌++◌, length, map, take, drop, refl, sym, ◌∙◌, ap, subst, Option, Some, None, append-nil, append_assoc, take-append-drop, arith}
use Rattle.std.specs.Prelude.{if◌then◌else◌}
use Rattle.std.specs.List.{AllByRecursion, Contains}
use Rattle.std.specs.Option.{option_to_list}
use Rattle.std.proofs.lemmas.List.{map-append, take-map}
use Rattle.std.proofs.lemmas.List.Elements.{Contains-append_cases, Contains-append_left, Contains-append_right}
use Rattle.faim_base.specs.Numbers.{IsMoment as InCalendar}
use Rattle.link_frames.specs.Frames.{Content as Frame, frame_bytes}
use Rattle.host_ledger.specs.declared.config.Config.{Config}
use Rattle.host_ledger.specs.declared.entries.Entry.{Entry}
use Rattle.host_ledger.specs.declared.entries.Entry.TheVariants.{Posted, Roll}
use Rattle.journaled_list.specs.Payloads.{Stands}
use Rattle.journaled_list.specs.Rules.{AllFollowed, IsLawful, Listed}
use Rattle.faim_model.specs.Frames.{Covered}
use Rattle.faim_model.specs.Lawful.{last_moment}
use Rattle.faim_model.specs.Sending.{frames_of, resume_frames, unmarked}
use Rattle.faim_model.specs.Sessions.{Arrival, IsArrival, entries_after, recent_with, session_frames}
use Rattle.faim_model.specs.Turns.{adds_to}
use Rattle.faim_model.proofs.Covering.{covered_by_longer}
use Rattle.faim_model.proofs.Drawn.{from_map, from_take, into_map}
use Rattle.faim_model.proofs.Members.{none_in}
use Rattle.faim_model.proofs.Outcomes.{sends_own}
use Rattle.faim_model.proofs.SendingLemmas.{frames_alike, resume_covered}
use Rattle.faim_model.proofs.Stepping.{step_covered, step_in_calendar}
use Rattle.host_node.specs.HostList.{host_rules}
use Rattle.line_sessions.specs.Plays.{IsMoment, all_after, all_sent}
use Rattle.line_sessions.proofs.Joined.{after_on}
use Rattle.node_session.specs.Kinds.{Event, KeptStands, events, kept_after}
use Rattle.host_session.specs.HostKind.{Kept, host_kind, host_part, step_of}
use Rattle.node_session.specs.Kinds.Event.{Resumed, Came}
use Rattle.host_session.specs.Promises.{IsOwed, IsSafe, IsSound, all_frames, first_sent, frames_for}
use Rattle.host_session.proofs.ModelWords.{bytes_of_all, frames_of_session, frames_on, session_after}

-- ---- what events add

abbrev pub newer_at : Kept → Event Arrival → List Entry
newer_at kept Resumed = []
newer_at kept (Came a) = option_to_list (step_of kept a).adds

abbrev pub all_newer : Kept → List (Event Arrival) → List Entry
all_newer kept [] = []
all_newer kept (event ∷ later) = all_newer (kept_after host_kind kept event) later ++ newer_at kept event

added : (adds : Option Entry) (es : List Entry) → adds_to adds es ≡ option_to_list adds ++ es
added None es = refl
added (Some x) es = refl

grown_by : (kept : Kept) (event : Event Arrival) → (kept_after host_kind kept event).entries ≡ newer_at kept event ++ kept.entries
grown_by kept Resumed = refl
grown_by kept (Came a) = added (step_of kept a).adds kept.entries

pub grown_is : (kept : Kept) (taken : List (Event Arrival)) → (all_after host_part kept taken).entries ≡ all_newer kept taken ++ kept.entries
grown_is kept [] = refl
grown_is kept (event ∷ later) =
    grown_is (kept_after host_kind kept event) later
    ∙ ap (λ (l : List Entry). all_newer (kept_after host_kind kept event) later ++ l) (grown_by kept event)
    ∙ sym (append_assoc (all_newer (kept_after host_kind kept event) later) (newer_at kept event) kept.entries)

-- the configuration stays
config_by : (kept : Kept) (event : Event Arrival) → (kept_after host_kind kept event).config ≡ kept.config
config_by kept Resumed = refl
config_by kept (Came a) = refl

config_stays : (kept : Kept) (taken : List (Event Arrival)) → (all_after host_part kept taken).config ≡ kept.config
config_stays kept [] = refl
config_stays kept (event ∷ later) = config_stays (kept_after host_kind kept event) later ∙ config_by kept event

-- the newest entry is of a moment of the calendar
calendar_by : (kept : Kept) (event : Event Arrival) → IsSound event → InCalendar (last_moment kept.entries) → InCalendar (last_moment (kept_after host_kind kept event).entries)
calendar_by kept Resumed sound before = before
calendar_by kept (Came a) sound before = step_in_calendar kept.config kept.entries a.frame a.reading sound.timed before

pub calendar_of : (c : Config) (newer es : List Entry) → AllFollowed host_rules c (newer ++ es) → InCalendar (last_moment es)
calendar_of c [] [] all = let low : 0 ≤ 4_207_593_599 = omega arith in low
calendar_of c [] (Posted h body resent moment v ∷ older) all = all.0.0.1
calendar_of c [] (Roll moment date ∷ older) all = all.0.0.0
calendar_of c (x ∷ newer) es all = calendar_of c newer es all.1

-- ---- the frames of newer entries

first_sent_on : (c : Config) (es newer first : List Entry) → first_sent c es (newer ++ first) ≡ first_sent c es first ++ first_sent c (first ++ es) newer
first_sent_on c es [] first = sym (append-nil (first_sent c es first))
first_sent_on c es (x ∷ newer) first =
    (λ k. first_sent_on c es newer first k ++ frames_of c (append_assoc newer first es k) x 32)
    ∙ append_assoc (first_sent c es first) (first_sent c (first ++ es) newer) (frames_of c (newer ++ (first ++ es)) x 32)

sent_of_added : (c : Config) (es : List Entry) (adds : Option Entry) (sends : List Frame) → ((x : Entry) → adds ≡ Some x → sends ≡ frames_of c es x 32)
    → (f : Frame) → Contains (first_sent c es (option_to_list adds)) f → Contains sends f
sent_of_added c es None sends own f there = absurd (none_in f there)
sent_of_added c es (Some x) sends own f there = subst (λ (l : List Frame). Contains l f) (sym (own x refl)) there

sent_by : (kept : Kept) (event : Event Arrival) (f : Frame) → Contains (first_sent kept.config kept.entries (newer_at kept event)) f → Contains (frames_for kept event) f
sent_by kept Resumed f there = absurd (none_in f there)
sent_by kept (Came a) f there =
    sent_of_added kept.config kept.entries (step_of kept a).adds (step_of kept a).sends (sends_own kept.config kept.entries a.frame a.reading) f there

-- where all events are done, the frames of all that they added were sent
pub sent_all : (kept : Kept) (taken : List (Event Arrival)) (f : Frame) → Contains (first_sent kept.config kept.entries (all_newer kept taken)) f → Contains (all_frames kept taken) f
sent_all kept [] f there = absurd (none_in f there)
sent_all kept (event ∷ later) f there =
    let next : Kept = kept_after host_kind kept event in
    let newer : List Entry = all_newer next later in
    let first : List Entry = newer_at kept event in
    ⊎_elim (λ (own : Contains (first_sent kept.config kept.entries first) f). Contains-append_left (frames_for kept event) (all_frames next later) f (sent_by kept event f own))
    (λ (more : Contains (first_sent kept.config (first ++ kept.entries) newer) f).
    Contains-append_right (frames_for kept event) (all_frames next later) f (sent_all next later f
    (subst (λ (l : List Entry). Contains (first_sent next.config l newer) f) (sym (grown_by kept event))
    (subst (λ (c : Config). Contains (first_sent c (first ++ kept.entries) newer) f) (sym (config_by kept event)) more))))
    (Contains-append_cases (first_sent kept.config kept.entries first) (first_sent kept.config (first ++ kept.entries) newer) f
    (subst (λ (l : List Frame). Contains l f) (first_sent_on kept.config kept.entries newer first) there))

-- and a resume sends the frames of what the last event added again
again_of : (c : Config) (es : List Entry) (r : ℕ) (adds : Option Entry) (f : Frame) → Contains (first_sent c es (option_to_list adds)) f
    → (again : Frame) × Contains (resume_frames c (adds_to adds es) (recent_with r adds)) again × (unmarked again ≡ unmarked f)
again_of c es r None f there = absurd (none_in f there)
again_of c es r (Some x) f there =
    from_map unmarked (frames_of c es x 80) (unmarked f)
    (subst (λ (l : List Frame). Contains l (unmarked f)) (sym (frames_alike c es x 80 32)) (into_map unmarked (frames_of c es x 32) f there))

again_by : (kept : Kept) (begun : List (Event Arrival)) (f : Frame) → length begun ≤ 1 → Contains (first_sent kept.config kept.entries (all_newer kept begun)) f
    → IsOwed f (all_after host_part kept begun)
again_by kept [] f one there = absurd (none_in f there)
again_by kept (Resumed ∷ []) f one there = absurd (none_in f there)
again_by kept (Came a ∷ []) f one there = again_of kept.config kept.entries kept.recent (step_of kept a).adds f there
again_by kept (first ∷ second ∷ more) f one there = absurd (omega (arith, one))

-- ---- what covers the frames

stays_covered : (kept : Kept) (taken : List (Event Arrival)) (f : Frame) → Covered kept.config kept.entries f → Covered kept.config (all_after host_part kept taken).entries f
stays_covered kept taken f covered =
    subst (λ (l : List Entry). Covered kept.config l f) (sym (grown_is kept taken)) (covered_by_longer kept.config kept.entries (all_newer kept taken) f covered)

covered_by : (kept : Kept) (event : Event Arrival) (f : Frame) → IsSound event → InCalendar (last_moment kept.entries) → Contains (frames_for kept event) f
    → Covered kept.config (kept_after host_kind kept event).entries f
covered_by kept Resumed f sound before there = resume_covered kept.config kept.entries kept.recent f there
covered_by kept (Came a) f sound before there = step_covered kept.config kept.entries a.frame a.reading f sound.sound.endpoint sound.timed before there

covered_all : (kept : Kept) (taken : List (Event Arrival)) (f : Frame) → AllByRecursion IsSound taken → InCalendar (last_moment kept.entries) → Contains (all_frames kept taken) f
    → Covered kept.config (all_after host_part kept taken).entries f
covered_all kept [] f sound before there = absurd (none_in f there)
covered_all kept (event ∷ later) f sound before there =
    let next : Kept = kept_after host_kind kept event in
    let Is : Config → Type 0 = λ c. Covered c (all_after host_part next later).entries f in
    ⊎_elim (λ (own : Contains (frames_for kept event) f).
    subst Is (config_by kept event) (stays_covered next later f
    (subst (λ (c : Config). Covered c next.entries f) (sym (config_by kept event)) (covered_by kept event f sound.0 before own))))
    (λ (more : Contains (all_frames next later) f).
    subst Is (config_by kept event) (covered_all next later f sound.1 (calendar_by kept event sound.0 before) more))
    (Contains-append_cases (frames_for kept event) (all_frames next later) f there)

front_sound : (first more : List (Event Arrival)) → AllByRecursion IsSound (first ++ more) → AllByRecursion IsSound first
front_sound [] more all = tt
front_sound (event ∷ first) more all = (all.0, front_sound first more all.1)

-- arrivals are sound events
pub came_sound : (arrivals : List Arrival) → AllByRecursion IsArrival arrivals → AllByRecursion IsSound (map Came arrivals)
came_sound [] all = tt
came_sound (a ∷ arrivals) all = (all.0, came_sound arrivals all.1)

-- ---- a moment

module _ (lawful : (image : List ℕ) (list : Listed Config Entry) (r : ℕ) → Stands host_rules image list r → IsLawful host_rules list) where
  -- the newest entry of what was kept is of a moment of the calendar, where the image stands for a list that has grown from it
  calendar_from : (image : List ℕ) (now : Kept) (newer es : List Entry) → now.entries ≡ newer ++ es → KeptStands host_kind image now → InCalendar (last_moment es)
  calendar_from image now newer es are stands =
      calendar_of now.config newer es
      (subst (AllFollowed host_rules now.config) are (lawful image (record { opening = now.config; entries = now.entries }) now.recent stands).entries)

  module _ (kept : Kept) (done begun later : List (Event Arrival)) (before : List (List ℕ)) (image : List ℕ) (found : List (List ℕ)) (count : ℕ)
      (one : length begun ≤ 1) (sound : AllByRecursion IsSound (done ++ (begun ++ later)))
      (is : found ≡ before ++ (all_sent host_part kept done ++ take count (all_sent host_part (all_after host_part kept done) begun))) where
    abbrev mid : Kept
    mid = all_after host_part kept done

    abbrev now : Kept
    now = all_after host_part mid begun

    abbrev early : List Frame
    early = all_frames kept done

    abbrev going : List Frame
    going = all_frames mid begun

    abbrev rest : List Frame
    rest = all_frames now later

    abbrev whole : List (Event Arrival)
    whole = done ++ (begun ++ later)

    frames_are : all_frames kept whole ≡ (early ++ take count going) ++ (drop count going ++ rest)
    frames_are =
        frames_on kept done (begun ++ later)
        ∙ ap (λ (l : List Frame). early ++ l) (
        frames_on mid begun later
        ∙ ap (λ (l : List Frame). l ++ rest) (sym (take-append-drop count going))
        ∙ append_assoc (take count going) (drop count going) rest)
        ∙ sym (append_assoc early (take count going) (drop count going ++ rest))

    found_as : found ≡ before ++ map frame_bytes (early ++ take count going)
    found_as =
        is
        ∙ ap (λ (l : List (List ℕ)). before ++ l) (
        (λ k. bytes_of_all kept done k ++ take count (bytes_of_all mid begun k))
        ∙ ap (λ (l : List (List ℕ)). map frame_bytes early ++ l) (take-map frame_bytes count going)
        ∙ sym (map-append frame_bytes early (take count going)))

    -- nothing of what was begun stands
    unbegun : count ≡ 0 → KeptStands host_kind image mid → IsSafe kept (all_after host_part kept whole).entries (all_frames kept whole) before image found
    unbegun none stands = record {
      now = mid;
      stands = stands;
      config = config_stays kept done;
      opening = record { newer = all_newer kept done; are = grown_is kept done };
      closing = record {
        newer = all_newer mid (begun ++ later);
        are = ap (λ (k : Kept). k.entries) (after_on host_part kept done (begun ++ later)) ∙ grown_is mid (begun ++ later);
      };
      out = early ++ take count going;
      later = drop count going ++ rest;
      in_order = frames_are;
      found_are = found_as;
      covered = λ f there. ⊎_elim
          (λ (own : Contains early f).
          subst (λ (c : Config). Covered c mid.entries f) (sym (config_stays kept done))
          (covered_all kept done f (front_sound done (begun ++ later) sound) (calendar_from image mid (all_newer kept done) kept.entries (grown_is kept done) stands) own))
          (λ (more : Contains (take count going) f). absurd (none_in f (subst (λ (n : ℕ). Contains (take n going) f) none more)))
          (Contains-append_cases early (take count going) f there);
      owed = λ f there. inl (Contains-append_left early (take count going) f (sent_all kept done f there));
    }

    -- what was begun stands
    grown_now : now.entries ≡ (all_newer mid begun ++ all_newer kept done) ++ kept.entries
    grown_now =
        grown_is mid begun
        ∙ ap (λ (l : List Entry). all_newer mid begun ++ l) (grown_is kept done)
        ∙ sym (append_assoc (all_newer mid begun) (all_newer kept done) kept.entries)

    config_now : now.config ≡ kept.config
    config_now = config_stays mid begun ∙ config_stays kept done

    covered_now : KeptStands host_kind image now → (f : Frame) → Contains (early ++ take count going) f → Covered now.config now.entries f
    covered_now stands f there =
        let among : Contains (early ++ going) f = ⊎_elim
        (λ (own : Contains early f). Contains-append_left early going f own)
        (λ (more : Contains (take count going) f). Contains-append_right early going f (from_take count going f more))
        (Contains-append_cases early (take count going) f there) in
        let front : AllByRecursion IsSound ((done ++ begun) ++ later) = subst (AllByRecursion IsSound) (sym (append_assoc done begun later)) sound in
        subst (λ (c : Config). Covered c now.entries f) (sym config_now) (subst (λ (k : Kept). Covered kept.config k.entries f) (after_on host_part kept done begun)
        (covered_all kept (done ++ begun) f (front_sound (done ++ begun) later front)
        (calendar_from image now (all_newer mid begun ++ all_newer kept done) kept.entries grown_now stands)
        (subst (λ (l : List Frame). Contains l f) (sym (frames_on kept done begun)) among)))

    owed_now : (f : Frame) → Contains (first_sent kept.config kept.entries (all_newer mid begun ++ all_newer kept done)) f → Contains (early ++ take count going) f ⊎ IsOwed f now
    owed_now f there =
        ⊎_elim (λ (own : Contains (first_sent kept.config kept.entries (all_newer kept done)) f). inl (Contains-append_left early (take count going) f (sent_all kept done f own)))
        (λ (more : Contains (first_sent kept.config (all_newer kept done ++ kept.entries) (all_newer mid begun)) f).
        inr (again_by mid begun f one
        (subst (λ (l : List Entry). Contains (first_sent mid.config l (all_newer mid begun)) f) (sym (grown_is kept done))
        (subst (λ (c : Config). Contains (first_sent c (all_newer kept done ++ kept.entries) (all_newer mid begun)) f) (sym (config_stays kept done)) more))))
        (Contains-append_cases (first_sent kept.config kept.entries (all_newer kept done)) (first_sent kept.config (all_newer kept done ++ kept.entries) (all_newer mid begun)) f
        (subst (λ (l : List Frame). Contains l f) (first_sent_on kept.config kept.entries (all_newer mid begun) (all_newer kept done)) there))

    begun_stands : KeptStands host_kind image now → IsSafe kept (all_after host_part kept whole).entries (all_frames kept whole) before image found
    begun_stands stands = record {
      now = now;
      stands = stands;
      config = config_now;
      opening = record { newer = all_newer mid begun ++ all_newer kept done; are = grown_now };
      closing = record {
        newer = all_newer now later;
        are = ap (λ (k : Kept). k.entries) (after_on host_part kept done (begun ++ later) ∙ after_on host_part mid begun later) ∙ grown_is now later;
      };
      out = early ++ take count going;
      later = drop count going ++ rest;
      in_order = frames_are;
      found_are = found_as;
      covered = covered_now stands;
      owed = owed_now;
    }

    by_stays : (stays : Bool) → (stays ≡ false → count ≡ 0) → KeptStands host_kind image (all_after host_part kept (if stays then done ++ begun else done))
        → IsSafe kept (all_after host_part kept whole).entries (all_frames kept whole) before image found
    by_stays true unsent stands = begun_stands (subst (KeptStands host_kind image) (after_on host_part kept done begun) stands)
    by_stays false unsent stands = unbegun (unsent refl) stands

  pub safe_moment : (kept : Kept) (taken : List (Event Arrival)) (before : List (List ℕ)) (image : List ℕ) (found : List (List ℕ)) → AllByRecursion IsSound taken
      → IsMoment host_part kept taken before image found → IsSafe kept (all_after host_part kept taken).entries (all_frames kept taken) before image found
  safe_moment kept taken before image found sound m =
      subst (λ (l : List (Event Arrival)). IsSafe kept (all_after host_part kept l).entries (all_frames kept l) before image found) (sym m.are)
      (by_stays kept m.done m.begun m.later before image found m.count m.one (subst (AllByRecursion IsSound) m.are sound) m.found_are m.stays m.unsent m.stands)

  pub safe_session : (kept : Kept) (arrivals : List Arrival) (before : List (List ℕ)) (image : List ℕ) (found : List (List ℕ)) → AllByRecursion IsArrival arrivals
      → IsMoment host_part kept (events arrivals) before image found
      → IsSafe kept (entries_after kept.config kept.entries arrivals) (session_frames kept.config kept.entries kept.recent arrivals) before image found
  safe_session kept arrivals before image found all m =
      subst (λ (frames : List Frame). IsSafe kept (entries_after kept.config kept.entries arrivals) frames before image found) (frames_of_session kept arrivals)
      (subst (λ (k : Kept). IsSafe kept k.entries (all_frames kept (events arrivals)) before image found) (session_after kept arrivals)
      (safe_moment kept (events arrivals) before image found (tt, came_sound arrivals all) m))
