-- What was covered when a session began is covered at each of its moments.
use Rattle.std.proofs.Common.{◌≡◌, ⊎_elim, ℕ, List, [], map, sym, subst}
use Rattle.std.specs.List.{AllByRecursion, Contains}
use Rattle.std.proofs.lemmas.List.Elements.{Contains-append_cases}
use Rattle.link_frames.specs.Frames.{Content as Frame, IsFrame, frame_bytes}
use Rattle.bank_books.specs.declared.entries.BankEntry.{BankEntry}
use Rattle.bank_books.specs.declared.entries.BankOpening.{BankOpening}
use Rattle.bank_books.proofs.Members.{none_in}
use Rattle.faim_model.proofs.Drawn.{from_map}
use Rattle.journaled_list.specs.Payloads.{Stands}
use Rattle.journaled_list.specs.Rules.{Listed}
use Rattle.bank_node.specs.BankRules.{bank_rules}
use Rattle.line_sessions.specs.Plays.{IsMoment}
use Rattle.node_session.specs.Kinds.{KeptStands, events}
use Rattle.bank_session.specs.BankKind.{Kept, bank_kind, bank_part, list_of}
use Rattle.bank_session.specs.Promises.{AllCovered, Covered, IsSafe}
use Rattle.bank_session.proofs.CoveredSteps.{covered_by_longer}
use Rattle.bank_session.proofs.SafeMoments.{came_sound, safe_moment}

pub none_covered : (kept : Kept) → AllCovered kept []
none_covered kept bytes there = absurd (none_in bytes there)

-- an image stands for one thing at most that is kept
pub one_kept : ((image : List ℕ) (a b : Listed BankOpening BankEntry) (r m : ℕ) → Stands bank_rules image a r → Stands bank_rules image b m → (a ≡ b) × (r ≡ m))
    → (image : List ℕ) (a b : Kept) → KeptStands bank_kind image a → KeptStands bank_kind image b → a ≡ b
one_kept once image a b p q =
    let one = once image (list_of a) (list_of b) a.recent b.recent p q in
    λ k. record { opening = (one.0 k).opening; entries = (one.0 k).entries; recent = one.1 k }

module _ (kept : Kept) (last : List BankEntry) (frames : List Frame) (before : List (List ℕ)) (image : List ℕ) (found : List (List ℕ)) (safe : IsSafe kept last frames before image found)
    (covered : AllCovered kept before) where
  abbrev Is : List ℕ → Type 0
  Is bytes = (f : Frame) × (frame_bytes f ≡ bytes) × Covered safe.now.opening safe.now.entries f

  -- what was out before
  was_covered : (bytes : List ℕ) → Contains before bytes → Is bytes
  was_covered bytes there =
      let was = covered bytes there in (
        was.0,
        was.1,
        subst (λ (o : BankOpening). Covered o safe.now.entries was.0) (sym safe.opened)
            (subst (λ (l : List BankEntry). Covered kept.opening l was.0) (sym safe.opening.are) (covered_by_longer kept.opening safe.opening.newer kept.entries was.0 was.2)),
      )

  -- what has gone out since
  is_covered : (bytes : List ℕ) → Contains (map frame_bytes safe.out) bytes → Is bytes
  is_covered bytes there = let from = from_map frame_bytes safe.out bytes there in (from.0, from.2, safe.covered from.0 from.1)

  all_covered : AllCovered safe.now found
  all_covered bytes there =
      ⊎_elim (was_covered bytes) (is_covered bytes)
      (Contains-append_cases before (map frame_bytes safe.out) bytes (subst (λ (l : List (List ℕ)). Contains l bytes) safe.found_are there))

pub covered_everywhere : ((image : List ℕ) (a b : Listed BankOpening BankEntry) (r m : ℕ) → Stands bank_rules image a r → Stands bank_rules image b m → (a ≡ b) × (r ≡ m))
    → (kept now : Kept) (arrivals : List Frame) (before : List (List ℕ)) (image : List ℕ) (found : List (List ℕ)) → AllByRecursion IsFrame arrivals → AllCovered kept before
    → IsMoment bank_part kept (events arrivals) before image found → KeptStands bank_kind image now → AllCovered now found
covered_everywhere once kept now arrivals before image found sound covered m stands =
    let safe = safe_moment kept (events arrivals) before image found (tt, came_sound arrivals sound) m in
    let same : safe.now ≡ now = one_kept once image safe.now now safe.stands stands in
    subst (λ (k : Kept). AllCovered k found) same (all_covered kept _ _ before image found safe covered)
