-- What was owed when a session began is out or owed at each of its moments.
use Rattle.std.proofs.Common.{◌≡◌, ◌⊎◌, ⊎_elim, inl, inr, ℕ, ◌≤◌, Bool, true, false, List, [], ◌∷◌, ◌++◌, length, map, take, refl, sym, ◌∙◌, ap, subst, arith}
use Rattle.std.specs.Prelude.{if◌then◌else◌}
use Rattle.std.specs.List.{AllByRecursion, Contains}
use Rattle.std.proofs.lemmas.List.Elements.{Contains-append_cases, Contains-append_left, Contains-append_right}
use Rattle.site_core.specs.Log.{sent}
use Rattle.site_core.specs.Told.{Told}
use Rattle.link_frames.specs.Frames.{Content as Frame, frame_bytes}
use Rattle.host_ledger.specs.declared.config.Config.{Config}
use Rattle.host_ledger.specs.declared.entries.Entry.{Entry}
use Rattle.journaled_list.specs.Payloads.{Stands}
use Rattle.journaled_list.specs.Rules.{IsLawful, Listed}
use Rattle.faim_model.specs.Sending.{frames_of, resume_frames}
use Rattle.faim_model.specs.Sessions.{Arrival, IsArrival}
use Rattle.faim_model.proofs.Drawn.{into_map}
use Rattle.faim_model.proofs.Members.{none_in}
use Rattle.host_node.specs.HostList.{host_rules}
use Rattle.line_sessions.specs.Plays.{IsMoment, PlaysOut, all_after, all_sent}
use Rattle.node_session.specs.Kinds.{Event, KeptStands, events, sent_at}
use Rattle.host_session.specs.HostKind.{Kept, host_kind, host_part}
use Rattle.node_session.specs.Kinds.Event.{Resumed, Came}
use Rattle.host_session.specs.Promises.{IsGrownFrom, IsOut, IsOwed, IsSafe, NoneMissed, all_frames, first_sent}
use Rattle.host_session.proofs.ModelWords.{bytes_of_all}
use Rattle.host_session.proofs.SafeMoments.{all_newer, came_sound, grown_is, safe_moment, sent_all}

-- ---- the frames of the resume

-- the frames that a resume of what is kept sends
abbrev resent : Kept → List Frame
resent kept = resume_frames kept.config kept.entries kept.recent

-- they are out, or the image still stands for what was kept
abbrev WasResumed : Kept → List ℕ → List (List ℕ) → Type 0
WasResumed kept image found = ((g : Frame) → Contains (resent kept) g → Contains found (frame_bytes g)) ⊎ KeptStands host_kind image kept

-- where the resume is all that was begun, what was kept stands
still : (kept : Kept) (image : List ℕ) (first : Event Arrival) (stays : Bool) → Resumed ≡ first → KeptStands host_kind image (all_after host_part kept (if stays then [] ++ first ∷ [] else [])) → KeptStands host_kind image kept
still kept image first true is stands = subst (λ (event : Event Arrival). KeptStands host_kind image (all_after host_part kept (event ∷ []))) (sym is) stands
still kept image first false is stands = stands

unbegun : (stays : Bool) (kept : Kept) (image : List ℕ) → KeptStands host_kind image (all_after host_part kept (if stays then [] ++ [] else [])) → KeptStands host_kind image kept
unbegun true kept image stands = stands
unbegun false kept image stands = stands

resumed_by : (kept : Kept) (rest done begun later : List (Event Arrival)) (before : List (List ℕ)) (image : List ℕ) (found more : List (List ℕ)) (stays : Bool)
    → Resumed ∷ rest ≡ done ++ (begun ++ later) → length begun ≤ 1 → KeptStands host_kind image (all_after host_part kept (if stays then done ++ begun else done))
    → found ≡ before ++ (all_sent host_part kept done ++ more) → WasResumed kept image found
resumed_by kept rest [] [] later before image found more stays are one stands is = inr (unbegun stays kept image stands)
resumed_by kept rest [] (first ∷ []) later before image found more stays are one stands is =
    let same : Resumed ≡ first = cc in inr (still kept image first stays same stands)
resumed_by kept rest [] (first ∷ second ∷ others) later before image found more stays are one stands is = absurd (omega (arith, one))
resumed_by kept rest (first ∷ done) begun later before image found more stays are one stands is =
    let same : Resumed ≡ first = cc in
    let early : List (List ℕ) = all_sent host_part (host_part.after kept first) done in
    inl (λ g there.
    subst (λ (l : List (List ℕ)). Contains l (frame_bytes g)) (sym is)
    (Contains-append_right before ((sent_at host_kind kept first ++ early) ++ more) (frame_bytes g)
    (Contains-append_left (sent_at host_kind kept first ++ early) more (frame_bytes g)
    (Contains-append_left (sent_at host_kind kept first) early (frame_bytes g)
    (subst (λ (event : Event Arrival). Contains (sent_at host_kind kept event) (frame_bytes g)) same (into_map frame_bytes (resent kept) g there))))))

resumed_or_same : (kept : Kept) (rest : List (Event Arrival)) (before : List (List ℕ)) (image : List ℕ) (found : List (List ℕ)) → IsMoment host_part kept (Resumed ∷ rest) before image found
    → WasResumed kept image found
resumed_or_same kept rest before image found m =
    resumed_by kept rest m.done m.begun m.later before image found (take m.count (all_sent host_part (all_after host_part kept m.done) m.begun)) m.stays m.are m.one m.stands m.found_are

-- ---- a moment

module _ (lawful : (image : List ℕ) (list : Listed Config Entry) (r : ℕ) → Stands host_rules image list r → IsLawful host_rules list)
    (once : (image : List ℕ) (a b : Listed Config Entry) (r m : ℕ) → Stands host_rules image a r → Stands host_rules image b m → (a ≡ b) × (r ≡ m)) where
  -- an image stands for one thing at most that is kept
  pub one_kept : (image : List ℕ) (a b : Kept) → KeptStands host_kind image a → KeptStands host_kind image b → a ≡ b
  one_kept image a b p q =
      let one = once image (record { opening = a.config; entries = a.entries }) (record { opening = b.config; entries = b.entries }) a.recent b.recent p q in
      λ k. record { config = (one.0 k).opening; entries = (one.0 k).entries; recent = one.1 k }

  module _ (kept now : Kept) (arrivals : List Arrival) (frames : List Frame) (before : List (List ℕ)) (image : List ℕ) (found : List (List ℕ))
      (sound : AllByRecursion IsArrival arrivals) (none : NoneMissed frames kept before) (m : IsMoment host_part kept (events arrivals) before image found) (stands : KeptStands host_kind image now) where
    abbrev Went : Frame → Type 0
    Went f = IsOut f found ⊎ IsOwed f now

    abbrev safe : IsSafe kept (all_after host_part kept (events arrivals)).entries (all_frames kept (events arrivals)) before image found
    safe = safe_moment lawful kept (events arrivals) before image found (tt, came_sound arrivals sound) m

    same : safe.now ≡ now
    same = one_kept image safe.now now safe.stands stands

    out_is : (f : Frame) → Contains safe.out f → Contains found (frame_bytes f)
    out_is f there =
        subst (λ (l : List (List ℕ)). Contains l (frame_bytes f)) (sym safe.found_are)
        (Contains-append_right before (map frame_bytes safe.out) (frame_bytes f) (into_map frame_bytes safe.out f there))

    -- of those that were out or owed
    earlier : (f : Frame) → Contains frames f → Went f
    earlier f there =
        ⊎_elim (λ (was : IsOut f before).
        inl (was.0, subst (λ (l : List (List ℕ)). Contains l (frame_bytes was.0)) (sym safe.found_are) (Contains-append_left before (map frame_bytes safe.out) (frame_bytes was.0) was.1), was.2))
        (λ (was : IsOwed f kept).
        ⊎_elim (λ (sends : (g : Frame) → Contains (resent kept) g → Contains found (frame_bytes g)). inl (was.0, sends was.0 was.1, was.2))
        (λ (stays : KeptStands host_kind image kept). inr (subst (IsOwed f) (one_kept image kept now stays stands) was))
        (resumed_or_same kept (map Came arrivals) before image found m))
        (none f there)

    -- of the newer entries
    newly : (f : Frame) → Contains (first_sent kept.config kept.entries safe.opening.newer) f → Went f
    newly f there =
        ⊎_elim (λ (own : Contains safe.out f). inl (f, out_is f own, refl))
        (λ (owed : IsOwed f safe.now). inr (subst (IsOwed f) same owed))
        (safe.owed f there)

    pub missed_nowhere : (grown : IsGrownFrom kept.entries now.entries) × NoneMissed (frames ++ first_sent kept.config kept.entries grown.newer) now found
    missed_nowhere = (
      record { newer = safe.opening.newer; are = ap (λ (k : Kept). k.entries) (sym same) ∙ safe.opening.are },
      λ f there. ⊎_elim (earlier f) (newly f) (Contains-append_cases frames (first_sent kept.config kept.entries safe.opening.newer) f there),
    )

-- ---- where all events are done

module _ (kept : Kept) (arrivals : List Arrival) (frames : List Frame) (old new : Told) (none : NoneMissed frames kept (sent old.log)) (plays : PlaysOut host_part kept (events arrivals) old new) where
  sent_in : (f : Frame) → Contains (all_frames kept (events arrivals)) f → Contains (sent new.log) (frame_bytes f)
  sent_in f there =
      subst (λ (l : List (List ℕ)). Contains l (frame_bytes f)) (sym plays.all)
      (Contains-append_right (sent old.log) (all_sent host_part kept (events arrivals)) (frame_bytes f)
      (subst (λ (l : List (List ℕ)). Contains l (frame_bytes f)) (sym (bytes_of_all kept (events arrivals))) (into_map frame_bytes (all_frames kept (events arrivals)) f there)))

  earlier_out : (f : Frame) → Contains frames f → IsOut f (sent new.log)
  earlier_out f there =
      ⊎_elim (λ (was : IsOut f (sent old.log)).
      (was.0, subst (λ (l : List (List ℕ)). Contains l (frame_bytes was.0)) (sym plays.all) (Contains-append_left (sent old.log) (all_sent host_part kept (events arrivals)) (frame_bytes was.0) was.1), was.2))
      (λ (was : IsOwed f kept). (was.0, sent_in was.0 (Contains-append_left (resent kept) (all_frames kept (map Came arrivals)) was.0 was.1), was.2))
      (none f there)

  abbrev newer : List Entry
  newer = all_newer kept (events arrivals)

  pub missed_in_the_end : (grown : IsGrownFrom kept.entries (all_after host_part kept (events arrivals)).entries)
      × ((f : Frame) → Contains (frames ++ first_sent kept.config kept.entries grown.newer) f → IsOut f (sent new.log))
  missed_in_the_end = (
    record { newer = newer; are = grown_is kept (events arrivals) },
    λ f there. ⊎_elim (earlier_out f)
        (λ (own : Contains (first_sent kept.config kept.entries newer) f). (f, sent_in f (sent_all kept (events arrivals) f own), refl))
        (Contains-append_cases frames (first_sent kept.config kept.entries newer) f there),
  )

-- ---- the frames of newer entries

pub none_at_first : (kept : Kept) (out : List (List ℕ)) → NoneMissed [] kept out
none_at_first kept out f there = absurd (none_in f there)

pub has_first_frames : (c : Config) (es more : List Entry) (later : List Entry) (x : Entry) (f : Frame) → Contains (frames_of c (more ++ es) x 32) f
    → Contains (first_sent c es (later ++ x ∷ more)) f
has_first_frames c es more [] x f there = Contains-append_right (first_sent c es more) (frames_of c (more ++ es) x 32) f there
has_first_frames c es more (y ∷ later) x f there =
    Contains-append_left (first_sent c es (later ++ x ∷ more)) (frames_of c ((later ++ x ∷ more) ++ es) y 32) f (has_first_frames c es more later x f there)
