-- What a stop at a moment of sessions leaves.
use Rattle.std.proofs.Common.{◌≡◌, ⊎_elim, ℕ, Bool, true, false, List, [], ◌∷◌, ◌++◌, map, take, refl, sym, ◌∙◌, ap, subst, append_assoc}
use Rattle.std.specs.Prelude.{if◌then◌else◌}
use Rattle.std.specs.List.{AllByRecursion, Contains}
use Rattle.std.proofs.lemmas.List.Elements.{Contains-append_cases, Contains-append_left, Contains-append_right}
use Rattle.link_frames.specs.Frames.{Content as Frame, IsFrame, frame_bytes}
use Rattle.bank_books.specs.declared.entries.BankEntry.{BankEntry}
use Rattle.bank_books.specs.declared.entries.BankOpening.{BankOpening}
use Rattle.bank_books.proofs.Members.{none_in}
use Rattle.faim_model.proofs.Drawn.{from_take}
use Rattle.line_sessions.specs.Plays.{IsMoment, all_after, all_sent}
use Rattle.line_sessions.proofs.Joined.{after_on}
use Rattle.node_session.specs.Kinds.{Event, KeptStands, events, kept_after}
use Rattle.node_session.specs.Kinds.Event.{Resumed, Came}
use Rattle.node_session.proofs.InFrames.{bytes_at, frames_at, frames_on, later_at, out_at}
use Rattle.bank_session.specs.BankKind.{Kept, bank_kind, bank_part}
use Rattle.bank_session.specs.BankSessions.{entries_after}
use Rattle.bank_session.specs.BankSessions.{frames_at as session_frames}
use Rattle.bank_session.specs.Promises.{Covered, IsSafe, IsSound, all_frames, frames_for}
use Rattle.bank_session.proofs.CoveredSteps.{covered_by_longer, step_covered}
use Rattle.bank_session.proofs.InWords.{all_newer, bytes_for, frames_of_session, grown_is, opened_still, session_after}

-- ---- what covers the frames

stays_covered : (kept : Kept) (taken : List (Event Frame)) (f : Frame) → Covered kept.opening kept.entries f → Covered kept.opening (all_after bank_part kept taken).entries f
stays_covered kept taken f covered =
    subst (λ (l : List BankEntry). Covered kept.opening l f) (sym (grown_is kept taken)) (covered_by_longer kept.opening (all_newer kept taken) kept.entries f covered)

covered_all : (kept : Kept) (taken : List (Event Frame)) (f : Frame) → Contains (all_frames kept taken) f → Covered kept.opening (all_after bank_part kept taken).entries f
covered_all kept [] f there = absurd (none_in f there)
covered_all kept (Resumed ∷ later) f there = covered_all kept later f there
covered_all kept (Came g ∷ later) f there =
    let next : Kept = kept_after bank_kind kept (Came g) in
    ⊎_elim (λ (own : Contains (frames_for kept (Came g)) f). stays_covered next later f (step_covered kept.opening kept.entries g f own))
    (λ (more : Contains (all_frames next later) f). covered_all next later f more)
    (Contains-append_cases (frames_for kept (Came g)) (all_frames next later) f there)

-- ---- a moment

module _ (kept : Kept) (done begun later : List (Event Frame)) (before : List (List ℕ)) (image : List ℕ) (found : List (List ℕ)) (count : ℕ)
    (is : found ≡ before ++ (all_sent bank_part kept done ++ take count (all_sent bank_part (all_after bank_part kept done) begun))) where
  abbrev mid : Kept
  mid = all_after bank_part kept done

  abbrev now : Kept
  now = all_after bank_part mid begun

  abbrev whole : List (Event Frame)
  whole = done ++ (begun ++ later)

  abbrev out : List Frame
  out = out_at bank_part frames_for bytes_for kept done begun later count

  found_as : found ≡ before ++ map frame_bytes out
  found_as = is ∙ ap (λ (l : List (List ℕ)). before ++ l) (bytes_at bank_part frames_for bytes_for kept done begun later count)

  -- nothing of what was begun stands
  unbegun : count ≡ 0 → KeptStands bank_kind image mid → IsSafe kept (all_after bank_part kept whole).entries (all_frames kept whole) before image found
  unbegun none stands = record {
    now = mid;
    stands = stands;
    opened = opened_still kept done;
    opening = record { newer = all_newer kept done; are = grown_is kept done };
    closing = record {
      newer = all_newer mid (begun ++ later);
      are = ap (λ (k : Kept). k.entries) (after_on bank_part kept done (begun ++ later)) ∙ grown_is mid (begun ++ later);
    };
    out = out;
    later = later_at bank_part frames_for bytes_for kept done begun later count;
    in_order = frames_at bank_part frames_for bytes_for kept done begun later count;
    found_are = found_as;
    covered = λ f there. ⊎_elim
        (λ (own : Contains (all_frames kept done) f). subst (λ (o : BankOpening). Covered o mid.entries f) (sym (opened_still kept done)) (covered_all kept done f own))
        (λ (more : Contains (take count (all_frames mid begun)) f). absurd (none_in f (subst (λ (n : ℕ). Contains (take n (all_frames mid begun)) f) none more)))
        (Contains-append_cases (all_frames kept done) (take count (all_frames mid begun)) f there);
  }

  -- what was begun stands
  grown_now : now.entries ≡ (all_newer mid begun ++ all_newer kept done) ++ kept.entries
  grown_now =
      grown_is mid begun
      ∙ ap (λ (l : List BankEntry). all_newer mid begun ++ l) (grown_is kept done)
      ∙ sym (append_assoc (all_newer mid begun) (all_newer kept done) kept.entries)

  opened_now : now.opening ≡ kept.opening
  opened_now = opened_still mid begun ∙ opened_still kept done

  covered_now : (f : Frame) → Contains out f → Covered now.opening now.entries f
  covered_now f there =
      let among : Contains (all_frames kept done ++ all_frames mid begun) f = ⊎_elim
      (λ (own : Contains (all_frames kept done) f). Contains-append_left (all_frames kept done) (all_frames mid begun) f own)
      (λ (more : Contains (take count (all_frames mid begun)) f). Contains-append_right (all_frames kept done) (all_frames mid begun) f (from_take count (all_frames mid begun) f more))
      (Contains-append_cases (all_frames kept done) (take count (all_frames mid begun)) f there) in
      subst (λ (o : BankOpening). Covered o now.entries f) (sym opened_now)
      (subst (λ (k : Kept). Covered kept.opening k.entries f) (after_on bank_part kept done begun)
      (covered_all kept (done ++ begun) f (subst (λ (l : List Frame). Contains l f) (sym (frames_on bank_part frames_for bytes_for kept done begun)) among)))

  begun_stands : KeptStands bank_kind image now → IsSafe kept (all_after bank_part kept whole).entries (all_frames kept whole) before image found
  begun_stands stands = record {
    now = now;
    stands = stands;
    opened = opened_now;
    opening = record { newer = all_newer mid begun ++ all_newer kept done; are = grown_now };
    closing = record {
      newer = all_newer now later;
      are = ap (λ (k : Kept). k.entries) (after_on bank_part kept done (begun ++ later) ∙ after_on bank_part mid begun later) ∙ grown_is now later;
    };
    out = out;
    later = later_at bank_part frames_for bytes_for kept done begun later count;
    in_order = frames_at bank_part frames_for bytes_for kept done begun later count;
    found_are = found_as;
    covered = covered_now;
  }

  by_stays : (stays : Bool) → (stays ≡ false → count ≡ 0) → KeptStands bank_kind image (all_after bank_part kept (if stays then done ++ begun else done))
      → IsSafe kept (all_after bank_part kept whole).entries (all_frames kept whole) before image found
  by_stays true unsent stands = begun_stands (subst (λ (k : Kept). KeptStands bank_kind image k) (after_on bank_part kept done begun) stands)
  by_stays false unsent stands = unbegun (unsent refl) stands

pub safe_moment : (kept : Kept) (taken : List (Event Frame)) (before : List (List ℕ)) (image : List ℕ) (found : List (List ℕ)) → AllByRecursion IsSound taken
    → IsMoment bank_part kept taken before image found → IsSafe kept (all_after bank_part kept taken).entries (all_frames kept taken) before image found
safe_moment kept taken before image found sound m =
    subst (λ (l : List (Event Frame)). IsSafe kept (all_after bank_part kept l).entries (all_frames kept l) before image found) (sym m.are)
    (by_stays kept m.done m.begun m.later before image found m.count m.found_are m.stays m.unsent m.stands)

-- arrivals are sound events
pub came_sound : (arrivals : List Frame) → AllByRecursion IsFrame arrivals → AllByRecursion IsSound (map Came arrivals)
came_sound [] all = tt
came_sound (f ∷ arrivals) all = (all.0, came_sound arrivals all.1)

pub safe_session : (kept : Kept) (arrivals : List Frame) (before : List (List ℕ)) (image : List ℕ) (found : List (List ℕ)) → AllByRecursion IsFrame arrivals
    → IsMoment bank_part kept (events arrivals) before image found
    → IsSafe kept (entries_after kept.opening kept.entries arrivals) (session_frames kept.opening kept.entries arrivals) before image found
safe_session kept arrivals before image found all m =
    subst (λ (frames : List Frame). IsSafe kept (entries_after kept.opening kept.entries arrivals) frames before image found) (frames_of_session kept arrivals)
    (subst (λ (es : List BankEntry). IsSafe kept es (all_frames kept (events arrivals)) before image found) (session_after kept arrivals).1
    (safe_moment kept (events arrivals) before image found (tt, came_sound arrivals all) m))
