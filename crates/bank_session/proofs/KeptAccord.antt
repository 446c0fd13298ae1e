-- Accord with a host is kept through a session whose frames the host covers.
use Rattle.std.proofs.Common.{◌≡◌, ℕ, zero, suc, List, [], ◌∷◌, ◌++◌, map, take, refl, sym, ◌∙◌, ap, subst, Option, Some, None, Result}
use Rattle.std.specs.List.{AllByRecursion}
use Rattle.std.specs.Io.KnownBytes.{Consumes}
use Rattle.site_core.specs.Log.{sent}
use Rattle.site_core.specs.Told.{Told, Goes}
use Rattle.site_core.proofs.Runs.{goes_as}
use Rattle.link_frames.specs.Frames.{Content as Frame}
use Rattle.link_frames.specs.Splits.{AreBytes, Splits}
use Rattle.link_frames.proofs.Shapes.{bytes_taken}
use Rattle.framed_input.specs.FramesIn.{frames_in, rest_in}
use Rattle.framed_input.specs.Limits.{greatest_input}
use Rattle.framed_input.proofs.InputFrames.{splits}
use Rattle.host_ledger.specs.declared.config.Config.{Config}
use Rattle.host_ledger.specs.declared.entries.Entry.{Entry}
use Rattle.bank_books.specs.declared.entries.BankEntry.{BankEntry}
use Rattle.bank_books.specs.declared.entries.BankOpening.{BankOpening}
use Rattle.bank_turns.specs.BankSteps.{adds_to, bank_step}
use Rattle.bank_turns.specs.KeptTexts.{BankMayFollow, KeptBank}
use Rattle.bank_node.specs.BankRules.{bank_rules}
use Rattle.bank_accord.specs.Accord.{Accords, IsHost, IsTrusted}
use Rattle.journaled_list.specs.Payloads.{Stands}
use Rattle.journaled_list.specs.Rules.{AllFollowed, IsLawful, Listed}
use Rattle.line_sessions.specs.declared.ends.SessionEnd.{SessionEnd}
use Rattle.line_sessions.specs.Plays.{IsMoment, all_after}
use Rattle.line_sessions.proofs.Joined.{kept_in_order}
use Rattle.node_session.specs.Kinds.{Event, KeptStands, events, kept_after}
use Rattle.node_session.specs.Kinds.Event.{Resumed, Came}
use Rattle.node_session.specs.Serving.{ServesAll, Session}
use Rattle.node_session.specs.Views.{View}
use Rattle.bank_session.specs.BankKind.{Kept, bank_kind, bank_part, list_of}
use Rattle.bank_session.specs.Trust.{IsTrustedInput, KeepsAccord}
use Rattle.bank_session.proofs.CoveredOut.{one_kept}
use Rattle.bank_session.proofs.InWords.{all_newer, grown_is, opened_still}

-- ---- lists that may stand

-- entries that follow one another in a journal are a list as a bank keeps it
pub kept_list : (o : BankOpening) (es : List BankEntry) → AllFollowed bank_rules o es → KeptBank o es
kept_list o [] all = tt
kept_list o (x ∷ older) all = (all.0, kept_list o older all.1)

-- so are the older ones of them
older_kept : (o : BankOpening) (newer es : List BankEntry) → KeptBank o (newer ++ es) → KeptBank o es
older_kept o [] es all = all
older_kept o (x ∷ newer) es all = older_kept o newer es all.1

-- ---- a session

-- what comes is covered
abbrev IsCovered : Config → List Entry → Event Frame → Type 0
IsCovered c es Resumed = Unit {0}
IsCovered c es (Came f) = IsTrusted c es f

came_covered : (c : Config) (es : List Entry) (arrivals : List Frame) → AllByRecursion (IsTrusted c es) arrivals → AllByRecursion (IsCovered c es) (map Came arrivals)
came_covered c es [] all = tt
came_covered c es (f ∷ arrivals) all = (all.0, came_covered c es arrivals all.1)

front_covered : (c : Config) (es : List Entry) (first more : List (Event Frame)) → AllByRecursion (IsCovered c es) (first ++ more) → AllByRecursion (IsCovered c es) first
front_covered c es [] more all = tt
front_covered c es (event ∷ first) more all = (all.0, front_covered c es first more all.1)

module _ (stays : (c : Config) (es : List Entry) (o : BankOpening) (kept : List BankEntry) (f : Frame) → IsHost c es o → KeptBank o kept → IsTrusted c es f → Accords c es o kept
    → Accords c es o (adds_to (bank_step o kept f).adds kept))
    (lawful : (image : List ℕ) (list : Listed BankOpening BankEntry) (r : ℕ) → Stands bank_rules image list r → IsLawful bank_rules list)
    (once : (image : List ℕ) (a b : Listed BankOpening BankEntry) (r m : ℕ) → Stands bank_rules image a r → Stands bank_rules image b m → (a ≡ b) × (r ≡ m))
    (c : Config) (es : List Entry) where
  -- over events, where what they leave is a list as a bank keeps it
  accord_after : (kept : Kept) (taken : List (Event Frame)) → KeptBank kept.opening (all_after bank_part kept taken).entries → AllByRecursion (IsCovered c es) taken
      → IsHost c es kept.opening → Accords c es kept.opening kept.entries → Accords c es kept.opening (all_after bank_part kept taken).entries
  accord_after kept [] whole all host was = was
  accord_after kept (Resumed ∷ later) whole all host was = accord_after kept later whole all.1 host was
  accord_after kept (Came f ∷ later) whole all host was =
      let grown = grown_is kept (Came f ∷ later) in
      let own : KeptBank kept.opening kept.entries = older_kept kept.opening (all_newer kept (Came f ∷ later)) kept.entries (subst (KeptBank kept.opening) grown whole) in
      accord_after (kept_after bank_kind kept (Came f)) later whole all.1 host (stays c es kept.opening kept.entries f host own all.0 was)

  pub accord_at : (kept now : Kept) (arrivals : List Frame) (before : List (List ℕ)) (image : List ℕ) (found : List (List ℕ)) → AllByRecursion (IsTrusted c es) arrivals
      → IsHost c es kept.opening → Accords c es kept.opening kept.entries → IsMoment bank_part kept (events arrivals) before image found → KeptStands bank_kind image now
      → Accords c es now.opening now.entries
  accord_at kept now arrivals before image found all host was m stands =
      let order = kept_in_order bank_part kept (events arrivals) before image found m in
      let then : Kept = all_after bank_part kept order.0 in
      let same : then ≡ now = one_kept once image then now order.3 stands in
      let opened : then.opening ≡ kept.opening = opened_still kept order.0 in
      let whole : KeptBank then.opening then.entries = kept_list then.opening then.entries (lawful image (list_of then) then.recent order.3).entries in
      let covered : AllByRecursion (IsCovered c es) order.0 = front_covered c es order.0 order.1 (subst (AllByRecursion (IsCovered c es)) order.2 (tt, came_covered c es arrivals all)) in
      let done : Accords c es kept.opening then.entries = accord_after kept order.0 (subst (λ (o : BankOpening). KeptBank o then.entries) opened whole) covered host was in
      subst (λ (k : Kept). Accords c es k.opening k.entries) same (subst (λ (o : BankOpening). Accords c es o then.entries) (sym opened) done)

-- ---- an input

-- the first bytes of an input, as far as they count, come first among all that count
counted_more : (n : ℕ) (bytes later : List ℕ) → (more : List ℕ) × (take n (bytes ++ later) ≡ take n bytes ++ more)
counted_more zero bytes later = ([], refl)
counted_more (suc n) [] later = (take (suc n) later, refl)
counted_more (suc n) (b ∷ bytes) later = let r = counted_more n bytes later in (r.0, ap (λ (l : List ℕ). b ∷ l) r.1)

-- what a known source has before some of it is taken
front_of : (whole bytes : List ℕ) (left : Option (List ℕ)) → Consumes (Some whole) left bytes → (later : List ℕ) × (whole ≡ bytes ++ later)
front_of whole bytes (Some later) is = (later, is)
front_of whole bytes None is = absurd is

same_frames : (fs : List Frame) → map (λ (f : Frame). f) fs ≡ fs
same_frames [] = refl
same_frames (f ∷ fs) = ap (λ (l : List Frame). f ∷ l) (same_frames fs)

front_trusted : (c : Config) (es : List Entry) (first more : List Frame) → AllByRecursion (IsTrusted c es) (first ++ more) → AllByRecursion (IsTrusted c es) first
front_trusted c es [] more all = tt
front_trusted c es (f ∷ first) more all = (all.0, front_trusted c es first more all.1)

module _ (result : Result (Unit {0}) SessionEnd) (old new : View) (whole : List ℕ) (c : Config) (es : List Entry) (s : Session bank_kind result old new) (known : old.left ≡ Some whole)
    (t : IsTrustedInput c es whole) where
  rest : (later : List ℕ) × (whole ≡ s.bytes ++ later)
  rest = front_of whole s.bytes new.left (subst (λ (o : Option (List ℕ)). Consumes o new.left s.bytes) known s.came.taken)

  abbrev counted : List ℕ
  counted = take greatest_input whole

  more : (later : List ℕ) × (counted ≡ take greatest_input s.bytes ++ later)
  more = let m = counted_more greatest_input s.bytes rest.0 in (m.0, ap (take greatest_input) rest.1 ∙ m.1)

  -- what arrived is covered
  pub trusted_arrivals : AllByRecursion (IsTrusted c es) s.arrivals
  trusted_arrivals =
      let all = s.came.first more.0 (frames_in counted) (rest_in counted)
      (subst (λ (l : List ℕ). Splits l (frames_in counted) (rest_in counted)) more.1 (splits counted (bytes_taken greatest_input whole t.sound))) in
      subst (AllByRecursion (IsTrusted c es)) (same_frames s.arrivals)
      (front_trusted c es (map (λ (f : Frame). f) s.arrivals) all.0 (subst (AllByRecursion (IsTrusted c es)) all.1 t.trusted))

module _ (stays : (c : Config) (es : List Entry) (o : BankOpening) (kept : List BankEntry) (f : Frame) → IsHost c es o → KeptBank o kept → IsTrusted c es f → Accords c es o kept
    → Accords c es o (adds_to (bank_step o kept f).adds kept))
    (lawful : (image : List ℕ) (list : Listed BankOpening BankEntry) (r : ℕ) → Stands bank_rules image list r → IsLawful bank_rules list)
    (once : (image : List ℕ) (a b : Listed BankOpening BankEntry) (r m : ℕ) → Stands bank_rules image a r → Stands bank_rules image b m → (a ≡ b) × (r ≡ m)) where
  pub accord_kept : (result : Result (Unit {0}) SessionEnd) (old new : View) (whole : List ℕ) (c : Config) (es : List Entry) → Session bank_kind result old new → old.left ≡ Some whole
      → IsTrustedInput c es whole → Goes old.site new.site (KeepsAccord c es)
  accord_kept result old new whole c es s known t =
      goes_as (ServesAll bank_kind result s.arrivals) (KeepsAccord c es) old.site new.site
      (λ x y serves kept now image found pending stands host was left is.
      accord_at stays lawful once c es kept now s.arrivals (sent x.log) image found (trusted_arrivals result old new whole c es s known t) host was
      ((serves kept pending stands).plays.each image found left) is)
      s.site
