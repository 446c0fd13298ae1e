-- What a host has put out is what a bank may trust.
use Rattle.std.proofs.Common.{◌≡◌, ℕ, List, [], ◌∷◌, ◌++◌, refl, sym, ◌∙◌, ap, subst, append-nil}
use Rattle.std.specs.List.{AllByRecursion, Contains, flat_map}
use Rattle.faim_base.specs.Numbers.{IsMoment as InCalendar}
use Rattle.link_frames.specs.declared.frame.FrameKind.{FrameKind}
use Rattle.link_frames.specs.Frames.{Content as Frame, IsFrame, frame_bytes}
use Rattle.link_frames.specs.Splits.{Splits}
use Rattle.link_frames.proofs.Splitting.{one}
use Rattle.host_ledger.specs.declared.config.Config.{Config}
use Rattle.host_ledger.specs.declared.entries.Entry.{Entry}
use Rattle.faim_model.specs.Frames.{Covered}
use Rattle.faim_model.specs.Lawful.{Lawful, last_moment}
use Rattle.faim_model.proofs.Covering.{covered_fits}
use Rattle.journaled_list.specs.Payloads.{Stands}
use Rattle.journaled_list.specs.Rules.{AllFollowed, IsLawful, Listed}
use Rattle.bank_books.specs.declared.entries.BankOpening.{BankOpening}
use Rattle.bank_accord.specs.Accord.{IsHost, IsTrusted, TrustedAs}
use Rattle.host_node.specs.HostList.{host_rules}
use Rattle.node_session.specs.Kinds.{KeptStands}
use Rattle.host_session.specs.HostKind.{Kept, host_kind, list_of}
use Rattle.host_session.specs.Promises.{AllCovered}
use Rattle.host_session.proofs.SafeMoments.{calendar_of}

-- entries that follow one another in a journal are a lawful list
lawful_list : (c : Config) (es : List Entry) → AllFollowed host_rules c es → Lawful c es
lawful_list c [] all = tt
lawful_list c (x ∷ older) all = (all.0.1, lawful_list c older all.1)

-- ---- frames and their bytes

alone : (f : Frame) → IsFrame f → Splits (frame_bytes f) (f ∷ []) []
alone f is = record { is = sym (append-nil (flat_map frame_bytes (f ∷ [])) ∙ append-nil (frame_bytes f)); each = (is, tt); part = refl }

abbrev first_of : Frame → List Frame → Frame
first_of f [] = f
first_of f (g ∷ gs) = g

-- two frames with the same bytes are one
same_frame : (f g : Frame) → IsFrame f → IsFrame g → frame_bytes g ≡ frame_bytes f → g ≡ f
same_frame f g p q same =
    ap (first_of f) (one (frame_bytes f) (g ∷ []) (f ∷ []) [] [] (subst (λ (l : List ℕ). Splits l (g ∷ []) []) same (alone g q)) (alone f p)).0

-- ---- trust

-- what is covered may be trusted, whatever its kind
trusted_as : (c : Config) (es : List Entry) (kind : FrameKind) (f : Frame) → Covered c es f → TrustedAs c es kind f
trusted_as c es FrameKind.Submit f covered = tt
trusted_as c es FrameKind.Retrieve f covered = tt
trusted_as c es FrameKind.Ack f covered = covered
trusted_as c es FrameKind.Output f covered = covered
trusted_as c es FrameKind.Roll f covered = tt
trusted_as c es FrameKind.Draft f covered = tt
trusted_as c es FrameKind.Tick f covered = tt

module _ (lawful : (image : List ℕ) (list : Listed Config Entry) (r : ℕ) → Stands host_rules image list r → IsLawful host_rules list) where
  pub host_stands : (kept : Kept) (image : List ℕ) (o : BankOpening) → KeptStands host_kind image kept → kept.config.date ≡ o.date → IsHost kept.config kept.entries o
  host_stands kept image o stands date =
      let all = lawful image (list_of kept) kept.recent stands in
      record { sound = all.opening; lawful = lawful_list kept.config kept.entries all.entries; date = date }

  pub trusted_out : (kept : Kept) (image : List ℕ) (out : List (List ℕ)) (f : Frame) → KeptStands host_kind image kept → AllCovered kept out → IsFrame f → Contains out (frame_bytes f)
      → IsTrusted kept.config kept.entries f
  trusted_out kept image out f stands covered is there =
      let all = lawful image (list_of kept) kept.recent stands in
      let own = covered (frame_bytes f) there in
      let timed : InCalendar (last_moment kept.entries) = calendar_of kept.config [] kept.entries all.entries in
      let fits : IsFrame own.0 = covered_fits kept.config kept.entries own.0 all.opening (lawful_list kept.config kept.entries all.entries) timed own.2 in
      trusted_as kept.config kept.entries f.kind f (subst (Covered kept.config kept.entries) (same_frame f own.0 is fits own.1) own.2)
