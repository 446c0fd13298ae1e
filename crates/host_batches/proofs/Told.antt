-- Groups tell the entries that they add.
use Rattle.std.proofs.Common.{◌≡◌, ◌≢◌, ⊎_elim, refl, sym, ap, subst, ◌∙◌, ℕ, suc, List, [], ◌∷◌, ◌++◌, append_assoc, append-nil, length, map, Option, Some, None, arith}
use Rattle.std.specs.List.{Contains}
use Rattle.std.specs.Option.{option_to_list}
use Rattle.std.proofs.lemmas.List.{map-append}
use Rattle.std.proofs.lemmas.List.Elements.{Contains-append_cases, Contains-append_left, Contains-append_right}
use Rattle.link_frames.specs.Frames.{Content as Frame}
use Rattle.host_ledger.specs.declared.config.Config.{Config}
use Rattle.host_ledger.specs.declared.entries.Entry.{Entry}
use Rattle.faim_model.specs.Sending.{frames_of, resume_frames, unmarked}
use Rattle.faim_model.specs.Sessions.{Arrival, entries_with, frames_at}
use Rattle.faim_model.specs.Steps.{host_step}
use Rattle.faim_model.specs.Turns.{adds_to}
use Rattle.faim_model.proofs.Members.{none_in}
use Rattle.faim_model.proofs.Outcomes.{sends_own}
use Rattle.faim_model.proofs.SendingLemmas.{frames_alike}
use Rattle.host_batches.specs.Groups.{entries_by, first_sent, recent_by}

module _ (c : Config) where
  pub first_sent_on : (es newer first : List Entry) → first_sent c es (newer ++ first) ≡ first_sent c es first ++ first_sent c (first ++ es) newer
  first_sent_on es [] first = sym (append-nil (first_sent c es first))
  first_sent_on es (x ∷ newer) first =
      (λ k. first_sent_on es newer first k ++ frames_of c (append_assoc newer first es k) x 32)
      ∙ append_assoc (first_sent c es first) (first_sent c (first ++ es) newer) (frames_of c (newer ++ (first ++ es)) x 32)

  sent_of_added : (es : List Entry) (adds : Option Entry) (sends : List Frame) → ((x : Entry) → adds ≡ Some x → sends ≡ frames_of c es x 32)
      → (f : Frame) → Contains (first_sent c es (option_to_list adds)) f → Contains sends f
  sent_of_added es None sends own f there = absurd (none_in f there)
  sent_of_added es (Some x) sends own f there = subst (λ (l : List Frame). Contains l f) (sym (own x refl)) there

  added : (es : List Entry) (adds : Option Entry) → adds_to adds es ≡ option_to_list adds ++ es
  added es None = refl
  added es (Some x) = refl

  pub sent_of_all : (es : List Entry) (xs : List Arrival) (f : Frame) → Contains (first_sent c es (entries_by c es xs)) f → Contains (frames_at c es xs) f
  sent_of_all es [] f there = absurd (none_in f there)
  sent_of_all es (a ∷ xs) f there =
      let adds : Option Entry = (host_step c es a.frame a.reading).adds in
      let sends : List Frame = (host_step c es a.frame a.reading).sends in
      let next : List Entry = entries_with c es a in
      ⊎_elim (λ (own : Contains (first_sent c es (option_to_list adds)) f).
      Contains-append_left sends (frames_at c next xs) f (sent_of_added es adds sends (sends_own c es a.frame a.reading) f own))
      (λ (more : Contains (first_sent c (option_to_list adds ++ es) (entries_by c next xs)) f).
      Contains-append_right sends (frames_at c next xs) f
      (sent_of_all next xs f (subst (λ (l : List Entry). Contains (first_sent c l (entries_by c next xs)) f) (sym (added es adds)) more)))
      (Contains-append_cases (first_sent c es (option_to_list adds)) (first_sent c (option_to_list adds ++ es) (entries_by c next xs)) f
      (subst (λ (l : List Frame). Contains l f) (first_sent_on es (entries_by c next xs) (option_to_list adds)) there))

  pub sent_again : (es newer : List Entry) → map unmarked (resume_frames c (newer ++ es) (length newer)) ≡ map unmarked (first_sent c es newer)
  sent_again es [] = refl
  sent_again es (x ∷ newer) =
      map-append unmarked (resume_frames c (newer ++ es) (length newer)) (frames_of c (newer ++ es) x 80)
      ∙ (λ k. sent_again es newer k ++ frames_alike c (newer ++ es) x 80 32 k)
      ∙ sym (map-append unmarked (first_sent c es newer) (frames_of c (newer ++ es) x 32))

  pub recent_sent_again : (es : List Entry) (r : ℕ) (newer : List Entry) → newer ≢ []
      → map unmarked (resume_frames c (newer ++ es) (recent_by r newer)) ≡ map unmarked (first_sent c es newer)
  recent_sent_again es r [] some = absurd (some refl)
  recent_sent_again es r (x ∷ newer) some = sent_again es (x ∷ newer)

  pub nothing_added : (es : List Entry) (r : ℕ) (newer : List Entry) → newer ≡ [] → resume_frames c (newer ++ es) (recent_by r newer) ≡ resume_frames c es r
  nothing_added es r newer none = ap (λ (l : List Entry). resume_frames c (l ++ es) (recent_by r l)) none
