-- What a step adds may follow, and what it sends is covered, goes to whom it belongs, and tells its outcome.
use Rattle.std.proofs.Common.{◌≡◌, ⊎_elim, inl, inr, refl, sym, ap, subst, ◌∙◌, ℕ, ◌≤◌, ◌==◌, List, [], ◌∷◌, filter, Option, Some, None, arith}
use Rattle.std.specs.Prelude.{IfSome}
use Rattle.std.specs.List.{Contains}
use Rattle.faim_base.specs.Numbers.{IsMoment}
use Rattle.faim_base.specs.Ranges.{IsEndpoint, IsImad}
use Rattle.faim_message.proofs.HeadRanges.{in_range}
use Rattle.host_ledger.specs.declared.config.Config.{Config}
use Rattle.host_ledger.specs.declared.entries.Entry.{Entry}
use Rattle.host_ledger.specs.declared.entries.Entry.TheVariants.{Posted, Roll}
use Rattle.link_frames.specs.Frames.{Content as Frame}
use Rattle.faim_model.specs.declared.decisions.Decision.{Decision}
use Rattle.faim_model.specs.declared.decisions.HostOutcome.TheVariants.{Recorded}
use Rattle.faim_model.specs.Outputs.{is_from, outputs, retrieved}
use Rattle.faim_model.specs.Submissions.{Submission, Numbered, submission}
use Rattle.faim_model.specs.Submissions.{Unnumbered, Strange as NoMessage}
use Rattle.faim_model.specs.Lawful.{Follows, Lawful, last_moment, moment_of}
use Rattle.faim_model.specs.Turns.{HostTurn, adds_to, effective}
use Rattle.faim_model.specs.Frames.{Covered, ack_of, output}
use Rattle.faim_model.specs.Sending.{frames_of}
use Rattle.faim_model.specs.Steps.{HostStep, host_step, identifier}
use Rattle.faim_model.proofs.Again.{turn_by}
use Rattle.faim_model.proofs.Drawn.{from_filter, from_map, from_take}
use Rattle.faim_model.proofs.Follow.{added_follows, lawful_with}
use Rattle.faim_model.proofs.Members.{first_or_later, none_in}
use Rattle.faim_model.proofs.SendingLemmas.{entry_covered}
use Rattle.faim_model.proofs.StepCases.{Again, Away, GoesOn, New, Posts, Refuses, Retrieves, StaysAt, StepCase, Submits, step_case}
use Rattle.faim_model.proofs.Submitted.{numbered_from}

-- the only member of a list of one
pub single : {A : Type 0} (x y : A) → Contains (x ∷ []) y → y ≡ x
single x y there = ⊎_elim (λ (own : y ≡ x). own) (λ (later : Contains [] y). absurd (none_in y later)) (first_or_later x y [] there)

-- an identifier that a submission has is one
identifier_by : (env : ℕ) (text : List ℕ) (s : Submission) → submission env text ≡ s → IfSome (identifier s) IsImad
identifier_by env text NoMessage is = tt
identifier_by env text Unnumbered is = tt
identifier_by env text (Numbered h body mark failed) is =
    let n = numbered_from env text h body mark failed is in (in_range n.message h n.spells.sound n.is_input n.head).imad

identifier_sound : (env : ℕ) (text : List ℕ) → IfSome (identifier (submission env text)) IsImad
identifier_sound env text = identifier_by env text (submission env text) refl

module _ (c : Config) (es : List Entry) (f : Frame) (reading : ℕ) where
  abbrev t : ℕ
  t = effective es reading

  -- what a step adds may follow, and it is of the effective moment
  abbrev AddsFollow : HostStep → Type 0
  AddsFollow s = (x : Entry) → s.adds ≡ Some x → Follows c es x × (moment_of x ≡ t)

  post_adds : (s : HostStep) → Posts c es f.endpoint t (submission c.env f.payload) s → AddsFollow s
  post_adds s p = subst AddsFollow (sym p.gives) own
    where
      own : AddsFollow (record {
        adds = Some (Posted p.head p.body (p.mark == 80) t p.verdict);
        sends = frames_of c es (Posted p.head p.body (p.mark == 80) t p.verdict) 32;
        outcome = Recorded p.head.imad p.verdict;
      })
      own x adds =
          let same : Posted p.head p.body (p.mark == 80) t p.verdict ≡ x = cc in
          let turn = ap (λ (r : HostTurn). r.adds) (turn_by c es f.endpoint reading f.payload p.head p.body p.mark p.failed (Decision.New p.verdict) p.is p.judges) in
          (added_follows c es f.endpoint reading f.payload x (turn ∙ adds), ap moment_of (sym same))

  adds_by : (s : HostStep) → StepCase c es f t s → AddsFollow s
  adds_by s (Submits kind (New p)) = post_adds s p
  adds_by s (Submits kind (Again k)) = subst AddsFollow (sym k.gives) (λ x adds. absurd cc)
  adds_by s (Submits kind (Away a)) = subst AddsFollow (sym a.gives) (λ x adds. absurd cc)
  adds_by s (Retrieves p asks gives) = subst AddsFollow (sym gives) (λ x adds. absurd cc)
  adds_by s (GoesOn date asks later gives) =
      subst AddsFollow (sym gives)
      (λ x adds. let same : Roll t date ≡ x = cc in
      let in_time : last_moment es ≤ t = omega arith in
      let own : Follows c es (Roll t date) = record { in_time = in_time; later = later; day = asks.day } in
      (subst (λ (y : Entry). Follows c es y) same own, ap moment_of (sym same)))
  adds_by s (StaysAt date asks early gives) = subst AddsFollow (sym gives) (λ x adds. absurd cc)
  adds_by s (Refuses asks gives) = subst AddsFollow (sym gives) (λ x adds. absurd cc)

  pub step_follows : (x : Entry) → (host_step c es f reading).adds ≡ Some x → Follows c es x
  step_follows x adds = (adds_by (host_step c es f reading) (step_case c es f reading) x adds).0

  pub step_moment : (x : Entry) → (host_step c es f reading).adds ≡ Some x → moment_of x ≡ t
  step_moment x adds = (adds_by (host_step c es f reading) (step_case c es f reading) x adds).1

  pub step_lawful : Lawful c es → Lawful c (adds_to (host_step c es f reading).adds es)
  step_lawful lawful = lawful_with c es (host_step c es f reading).adds step_follows lawful

  -- where the clock and the list are in the calendar, the list stays there
  moment_stays : (adds : Option Entry) → ((x : Entry) → adds ≡ Some x → moment_of x ≡ t) → IsMoment reading → IsMoment (last_moment es)
      → IsMoment (last_moment (adds_to adds es))
  moment_stays None at now before = before
  moment_stays (Some x) at now before = let own : moment_of x ≡ t = at x refl in omega (arith, own, now, before)

  pub step_in_calendar : IsMoment reading → IsMoment (last_moment es) → IsMoment (last_moment (adds_to (host_step c es f reading).adds es))
  step_in_calendar now before = moment_stays (host_step c es f reading).adds step_moment now before

  -- what it sends is covered
  abbrev SendsCovered : HostStep → Type 0
  SendsCovered s = (g : Frame) → Contains s.sends g → Covered c (adds_to s.adds es) g

  covers_by : (s : HostStep) → IsMoment t → IsEndpoint f.endpoint → StepCase c es f t s → SendsCovered s
  covers_by s now line (Submits kind (New p)) =
      subst SendsCovered (sym p.gives) (λ g there. entry_covered c es (Posted p.head p.body (p.mark == 80) t p.verdict) 32 g (inl refl) there)
  covers_by s now line (Submits kind (Again k)) =
      subst SendsCovered (sym k.gives) (λ g there. inl (record {
        place = k.place;
        mark = 80;
        marked = inr refl;
        sent = ap (λ (o : Option Entry). option_acked o) k.stands ∙ ap (λ (h : Frame). Some h) (sym (single _ g there));
      }))
    where
      option_acked : Option Entry → Option Frame
      option_acked None = None
      option_acked (Some x) = ack_of c 80 x
  covers_by s now line (Submits kind (Away a)) =
      subst SendsCovered (sym a.gives) (λ g there. inr (inr (record {
        why = a.why;
        away = a.away;
        imad = identifier (submission c.env f.payload);
        identified = a.identified;
        imad_sound = identifier_sound c.env f.payload;
        moment = t;
        moment_sound = now;
        line = f.endpoint;
        line_sound = line;
        sent = sym (single _ g there);
      })))
  covers_by s now line (Retrieves p asks gives) =
      subst SendsCovered (sym gives) (λ g there.
      let from = from_map (λ i. output c f.endpoint i 82) (retrieved c es f.endpoint p) g there in
      let own : Contains (outputs c es f.endpoint) from.0 =
      from_filter (is_from p) (outputs c es f.endpoint) from.0 (from_take 64 (filter (is_from p) (outputs c es f.endpoint)) from.0 from.1) in
      inr (inl (record { line = f.endpoint; item = from.0; there = own; mark = 82; marked = inr (inr refl); sent = from.2 })))
  covers_by s now line (GoesOn date asks later gives) =
      subst SendsCovered (sym gives) (λ g there. entry_covered c es (Roll t date) 32 g (inl refl) there)
  covers_by s now line (StaysAt date asks early gives) = subst SendsCovered (sym gives) (λ g there. absurd (none_in g there))
  covers_by s now line (Refuses asks gives) = subst SendsCovered (sym gives) (λ g there. absurd (none_in g there))

  pub step_covered : (g : Frame) → IsEndpoint f.endpoint → IsMoment reading → IsMoment (last_moment es)
      → Contains (host_step c es f reading).sends g → Covered c (adds_to (host_step c es f reading).adds es) g
  step_covered g line now before there =
      let moment : IsMoment t = omega (arith, now, before) in
      covers_by (host_step c es f reading) moment line (step_case c es f reading) g there
