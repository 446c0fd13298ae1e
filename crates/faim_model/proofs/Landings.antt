-- What stands after a step that landed in order.
use Rattle.std.proofs.Common.{◌≡◌, ◌⊎◌, ⊎_elim, inl, inr, ◌↔◌, refl, sym, ap, subst, ◌∙◌, ℕ, ◌+◌, ◌≤◌, Bool, true, false, List, [], ◌∷◌, ◌++◌, length, take, drop, append-nil, append_assoc, Option, Some, None, IsSome}
use Rattle.std.specs.List.{Contains}
use Rattle.std.proofs.Math.Seq.{take-length}
use Rattle.std.proofs.lemmas.List.{length-append, length-take-le, take-append-drop}
use Rattle.std.proofs.lemmas.List.Elements.{Contains-append_cases}
use Rattle.faim_base.specs.Numbers.{IsMoment}
use Rattle.host_ledger.specs.declared.config.Config.{Config}
use Rattle.host_ledger.specs.declared.entries.Entry.{Entry}
use Rattle.link_frames.specs.Frames.{Content as Frame, IsFrame}
use Rattle.faim_model.specs.Lawful.{Lawful, last_moment}
use Rattle.faim_model.specs.Turns.{adds_to}
use Rattle.faim_model.specs.Frames.{Covered}
use Rattle.faim_model.specs.Steps.{HostStep, host_step}
use Rattle.faim_model.specs.Landing.{InOrder, kept_of, landed}
use Rattle.faim_model.proofs.Covering.{covered_by_longer}
use Rattle.faim_model.proofs.Drawn.{from_take}
use Rattle.faim_model.proofs.Members.{none_in}
use Rattle.faim_model.proofs.Stepping.{step_covered, step_lawful}

-- a list covers what it covered before an entry was added or none
pub covered_with : (c : Config) (es : List Entry) (adds : Option Entry) (g : Frame) → Covered c es g → Covered c (adds_to adds es) g
covered_with c es None g covered = covered
covered_with c es (Some x) g covered = covered_by_longer c es (x ∷ []) g covered

-- frames that are sent before the entry is kept are none of an entry's
unkept_covered : (c : Config) (es : List Entry) (adds : Option Entry) (sends : List Frame) (n : ℕ) (g : Frame)
    → ((x : Entry) → adds ≡ Some x → n ≡ 0) → (Contains sends g → Covered c (adds_to adds es) g) → Contains (take n sends) g → Covered c es g
unkept_covered c es None sends n g unkept covered there = covered (from_take n sends g there)
unkept_covered c es (Some x) sends n g unkept covered there =
    absurd (none_in g (subst (λ (k : ℕ). Contains (take k sends) g) (unkept x refl) there))

module _ (c : Config) (es : List Entry) (f : Frame) (reading : ℕ) where
  abbrev step : HostStep
  step = host_step c es f reading

  pub landed_lawful : (kept : Bool) → Lawful c es → Lawful c (adds_to (kept_of kept step.adds) es)
  landed_lawful true lawful = step_lawful c es f reading lawful
  landed_lawful false lawful = lawful

  sent_covered : (kept : Bool) (n : ℕ) (g : Frame) → IsFrame f → IsMoment reading → IsMoment (last_moment es) → InOrder step kept n
      → Contains (take n step.sends) g → Covered c (adds_to (kept_of kept step.adds) es) g
  sent_covered true n g sound now before in_order there = step_covered c es f reading g sound.endpoint now before (from_take n step.sends g there)
  sent_covered false n g sound now before in_order there =
      unkept_covered c es step.adds step.sends n g (λ x adds. in_order.unkept (subst IsSome (sym adds) refl) refl)
      (λ among. step_covered c es f reading g sound.endpoint now before among) there

  pub landed_covered : (earlier : List Frame) (kept : Bool) (n : ℕ) (g : Frame) → IsFrame f → IsMoment reading → IsMoment (last_moment es) → InOrder step kept n
      → ((h : Frame) → Contains earlier h → Covered c es h) → Contains (landed es earlier step kept n).frames g → Covered c (landed es earlier step kept n).entries g
  landed_covered earlier kept n g sound now before in_order covered there =
      ⊎_elim (λ (old : Contains earlier g). covered_with c es (kept_of kept step.adds) g (covered g old))
      (λ (new : Contains (take n step.sends) g). sent_covered kept n g sound now before in_order new)
      (Contains-append_cases earlier (take n step.sends) g there)

-- a step that goes through lands in order, and is all that it says
pub whole : (es : List Entry) (earlier : List Frame) (s : HostStep)
    → landed es earlier s true (length s.sends) ≡ record { entries = adds_to s.adds es; frames = earlier ++ s.sends }
whole es earlier s = ap (λ (l : List Frame). record { entries = adds_to s.adds es; frames = earlier ++ l }) (take-length s.sends)

-- where the entry isn't kept, all is as it was before the step
lost_by : (es : List Entry) (earlier : List Frame) (s : HostStep) (n : ℕ) → n ≡ 0 → landed es earlier s false n ≡ record { entries = es; frames = earlier }
lost_by es earlier s n none =
    ap (λ (k : ℕ). record { entries = es; frames = earlier ++ take k s.sends }) none ∙ ap (λ (l : List Frame). record { entries = es; frames = l }) (append-nil earlier)

pub lost : (es : List Entry) (earlier : List Frame) (s : HostStep) (n : ℕ) (x : Entry) → s.adds ≡ Some x → InOrder s false n
    → landed es earlier s false n ≡ record { entries = es; frames = earlier }
lost es earlier s n x adds in_order = lost_by es earlier s n (in_order.unkept (subst IsSome (sym adds) refl) refl)

-- which ways there are
pub kept_in_order : (s : HostStep) (n : ℕ) → n ≤ length s.sends → InOrder s true n
kept_in_order s n few = record { few = few; unkept = λ some unkept. absurd cc }

by_adds : (kept : Bool) (adds : Option Entry) (n : ℕ) → (IsSome adds → kept ≡ false → n ≡ 0) → (kept ≡ true) ⊎ ((adds ≡ None) ⊎ (n ≡ 0))
by_adds true adds n unkept = inl refl
by_adds false None n unkept = inr (inl refl)
by_adds false (Some x) n unkept = inr (inr (unkept refl refl))

none_is_some : (adds : Option Entry) → adds ≡ None → IsSome adds → ⊥
none_is_some None none some = absurd cc
none_is_some (Some x) none some = absurd cc

pub in_order_where : (s : HostStep) (kept : Bool) (n : ℕ) → InOrder s kept n ↔ ((n ≤ length s.sends) × ((kept ≡ true) ⊎ ((s.adds ≡ None) ⊎ (n ≡ 0))))
in_order_where s kept n = (
  (λ in_order. (in_order.few, by_adds kept s.adds n in_order.unkept)),
  (λ way. record {
    few = way.0;
    unkept = λ some unkept.
        ⊎_elim (λ (is : kept ≡ true). absurd (let both : true ≡ false = sym is ∙ unkept in cc))
        (λ more. ⊎_elim (λ (none : s.adds ≡ None). absurd (none_is_some s.adds none some)) (λ (zero : n ≡ 0). zero) more) way.1;
  }),
)

-- what is sent is a front of all that the step would send
pub front_sent : (es : List Entry) (earlier : List Frame) (s : HostStep) (kept : Bool) (n : ℕ) → n ≤ length s.sends
    → (rest : List Frame) × ((landed es earlier s kept n).frames ++ rest ≡ earlier ++ s.sends) × (length (landed es earlier s kept n).frames ≡ length earlier + n)
front_sent es earlier s kept n few = (
  drop n s.sends,
  append_assoc earlier (take n s.sends) (drop n s.sends) ∙ ap (λ (l : List Frame). earlier ++ l) (take-append-drop n s.sends),
  length-append earlier (take n s.sends) ∙ ap (λ (k : ℕ). length earlier + k) (length-take-le n s.sends few),
)
