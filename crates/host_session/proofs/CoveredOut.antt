-- What was covered when a session began is covered at each of its moments.
use Rattle.std.proofs.Common.{◌≡◌, ⊎_elim, ℕ, List, [], map, sym, subst}
use Rattle.std.specs.List.{AllByRecursion, Contains}
use Rattle.std.proofs.lemmas.List.Elements.{Contains-append_cases}
use Rattle.link_frames.specs.Frames.{Content as Frame, frame_bytes}
use Rattle.host_ledger.specs.declared.config.Config.{Config}
use Rattle.host_ledger.specs.declared.entries.Entry.{Entry}
use Rattle.journaled_list.specs.Payloads.{Stands}
use Rattle.journaled_list.specs.Rules.{IsLawful, Listed}
use Rattle.faim_model.specs.Frames.{Covered}
use Rattle.faim_model.specs.Sessions.{Arrival, IsArrival}
use Rattle.faim_model.proofs.Covering.{covered_by_longer}
use Rattle.faim_model.proofs.Drawn.{from_map}
use Rattle.faim_model.proofs.Members.{none_in}
use Rattle.host_node.specs.HostList.{host_rules}
use Rattle.line_sessions.specs.Plays.{IsMoment}
use Rattle.node_session.specs.Kinds.{KeptStands, events}
use Rattle.host_session.specs.HostKind.{Kept, host_kind, host_part}
use Rattle.host_session.specs.Promises.{AllCovered, IsSafe}
use Rattle.host_session.proofs.NothingMissed.{one_kept}
use Rattle.host_session.proofs.SafeMoments.{came_sound, safe_moment}

pub none_covered : (kept : Kept) → AllCovered kept []
none_covered kept bytes there = absurd (none_in bytes there)

module _ (kept : Kept) (last : List Entry) (frames : List Frame) (before : List (List ℕ)) (image : List ℕ) (found : List (List ℕ)) (safe : IsSafe kept last frames before image found)
    (covered : AllCovered kept before) where
  abbrev Is : List ℕ → Type 0
  Is bytes = (f : Frame) × (frame_bytes f ≡ bytes) × Covered safe.now.config safe.now.entries f

  -- what was out before
  was_covered : (bytes : List ℕ) → Contains before bytes → Is bytes
  was_covered bytes there =
      let was = covered bytes there in (
        was.0,
        was.1,
        subst (λ (c : Config). Covered c safe.now.entries was.0) (sym safe.config)
            (subst (λ (l : List Entry). Covered kept.config l was.0) (sym safe.opening.are) (covered_by_longer kept.config kept.entries safe.opening.newer was.0 was.2)),
      )

  -- what has gone out since
  is_covered : (bytes : List ℕ) → Contains (map frame_bytes safe.out) bytes → Is bytes
  is_covered bytes there = let from = from_map frame_bytes safe.out bytes there in (from.0, from.2, safe.covered from.0 from.1)

  all_covered : AllCovered safe.now found
  all_covered bytes there =
      ⊎_elim (was_covered bytes) (is_covered bytes)
      (Contains-append_cases before (map frame_bytes safe.out) bytes (subst (λ (l : List (List ℕ)). Contains l bytes) safe.found_are there))

pub covered_everywhere : ((image : List ℕ) (list : Listed Config Entry) (r : ℕ) → Stands host_rules image list r → IsLawful host_rules list)
    → ((image : List ℕ) (a b : Listed Config Entry) (r m : ℕ) → Stands host_rules image a r → Stands host_rules image b m → (a ≡ b) × (r ≡ m))
    → (kept now : Kept) (arrivals : List Arrival) (before : List (List ℕ)) (image : List ℕ) (found : List (List ℕ)) → AllByRecursion IsArrival arrivals → AllCovered kept before
    → IsMoment host_part kept (events arrivals) before image found → KeptStands host_kind image now → AllCovered now found
covered_everywhere lawful once kept now arrivals before image found sound covered m stands =
    let safe = safe_moment lawful kept (events arrivals) before image found (tt, came_sound arrivals sound) m in
    let same : safe.now ≡ now = one_kept lawful once image safe.now now safe.stands stands in
    subst (λ (k : Kept). AllCovered k found) same (all_covered kept _ _ before image found safe covered)
