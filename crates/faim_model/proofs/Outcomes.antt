-- What a step is, by its outcome, and by what its frame asks.
use Rattle.std.proofs.Common.{◌≡◌, ◌⊎◌, inl, inr, refl, sym, ap, subst, ◌∙◌, ℕ, ◌<◌, ◌≤◌, ◌==◌, min, Bool, true, cond, List, [], ◌∷◌, length, map, filter, Option, Some, None, arith}
use Rattle.std.specs.Prelude.{is_some}
use Rattle.std.specs.List.{Contains}
use Rattle.std.proofs.lemmas.Bool.{le-ltb, lt-ltb}
use Rattle.std.proofs.lemmas.List.{length-map, length-take}
use Rattle.faim_base.specs.declared.ids.Imad.{Imad}
use Rattle.faim_base.specs.declared.ids.OutPos.{OutPos}
use Rattle.faim_base.specs.declared.judgement.Head.{Head}
use Rattle.faim_base.specs.declared.judgement.Reject.{Reject}
use Rattle.faim_base.specs.declared.judgement.Verdict.{Verdict}
use Rattle.faim_base.specs.declared.judgement.Verdict.TheVariants.{Taken, Refused}
use Rattle.host_ledger.specs.declared.config.Config.{Config}
use Rattle.host_ledger.specs.declared.entries.Entry.{Entry}
use Rattle.host_ledger.specs.declared.entries.Entry.TheVariants.{Posted, Roll}
use Rattle.host_ledger.specs.Accounts.{endpoints_of, has_endpoint}
use Rattle.host_ledger.specs.Soundness.{operator}
use Rattle.host_ledger.specs.Sums.{cycle, is_taken}
use Rattle.link_frames.specs.declared.frame.FrameKind.{FrameKind}
use Rattle.link_frames.specs.Frames.{Content as Frame}
use Rattle.faim_model.specs.declared.decisions.HostOutcome.{HostOutcome}
use Rattle.faim_model.specs.declared.decisions.HostOutcome.TheVariants.{Recorded, Known, TurnedAway, Retrieved, Rolled, NotLater, Strange}
use Rattle.faim_model.specs.Outputs.{is_from, outputs, retrieved}
use Rattle.faim_model.specs.Submissions.{Numbered, submission}
use Rattle.faim_model.specs.Lawful.{Follows}
use Rattle.faim_model.specs.Turns.{effective, submitted}
use Rattle.faim_model.specs.Acks.{verdict_ack}
use Rattle.faim_model.specs.Frames.{ack_of, framed, has_identifier, output, turned}
use Rattle.faim_model.specs.Sending.{frames_of}
use Rattle.faim_model.specs.Requests.{IsRequest, IsRetrieve, IsRoll}
use Rattle.faim_model.specs.Steps.{HostStep, host_step, identifier, retrieve_step, roll_step, roll_to, step_at, strange}
use Rattle.faim_model.proofs.Asked.{date_there, position_there}
use Rattle.faim_model.proofs.Drawn.{from_map}
use Rattle.faim_model.proofs.Exact.{refused_frames, roll_frames, taken_frames}
use Rattle.faim_model.proofs.Imads.{bytes_pass}
use Rattle.faim_model.proofs.Kept.{is_member}
use Rattle.faim_model.proofs.Members.{none_in}
use Rattle.faim_model.proofs.SendingLemmas.{Acked, Given, Part, part_of}
use Rattle.faim_model.proofs.Served.{served}
use Rattle.faim_model.proofs.StepCases.{Again, Away, GoesOn, New, Refuses, Retrieves, StaysAt, StepCase, Submits, step_case}
use Rattle.faim_model.proofs.Stepping.{single, step_follows}

module _ (c : Config) (es : List Entry) (f : Frame) (reading : ℕ) where
  abbrev t : ℕ
  t = effective es reading

  -- what a step is that has an outcome
  abbrev pub Tells : HostStep → HostOutcome → Type 0
  Tells s (Recorded imad v) = (h : Head) × (body : List ℕ) × (resent : Bool) × (f.kind ≡ FrameKind.Submit) × (h.imad ≡ imad)
      × (s ≡ record { adds = Some (Posted h body resent t v); sends = frames_of c es (Posted h body resent t v) 32; outcome = Recorded h.imad v })
  Tells s (Known imad v) = (h : Head) × (body : List ℕ) × (resent : Bool) × (moment : ℕ) × (own : Head) × (mark : ℕ) × (failed : Option Reject)
      × (submission c.env f.payload ≡ Numbered own body mark failed) × (own.imad ≡ imad) × (h.imad ≡ imad) × Contains es (Posted h body resent moment v)
      × (s ≡ record { adds = None; sends = framed FrameKind.Ack f.endpoint (verdict_ack c.env h moment v 80) ∷ []; outcome = Known imad v })
  Tells s (TurnedAway why) = (f.kind ≡ FrameKind.Submit) × (is_some (identifier (submission c.env f.payload)) ≡ has_identifier why)
      × (s ≡ record { adds = None; sends = turned c why (identifier (submission c.env f.payload)) t f.endpoint ∷ []; outcome = TurnedAway why })
  Tells s (Retrieved n) = (p : OutPos) × IsRetrieve f p × (n ≡ length (retrieved c es f.endpoint p))
      × (s ≡ record { adds = None; sends = map (λ i. output c f.endpoint i 82) (retrieved c es f.endpoint p); outcome = Retrieved n })
  Tells s (Rolled date) = IsRoll f date × (cycle c es < date)
      × (s ≡ record { adds = Some (Roll t date); sends = frames_of c es (Roll t date) 32; outcome = Rolled date })
  Tells s (NotLater current) = (date : ℕ) × IsRoll f date × (date ≤ cycle c es) × (current ≡ cycle c es)
      × (s ≡ record { adds = None; sends = []; outcome = NotLater current })
  Tells s Strange = (IsRequest f → ⊥) × (s ≡ strange)

  tells_by : (s : HostStep) → StepCase c es f t s → Tells s s.outcome
  tells_by s (Submits kind (New p)) =
      subst (Tells s) (sym (ap (λ (x : HostStep). x.outcome) p.gives)) (p.head, p.body, (p.mark == 80), kind, refl, p.gives)
  tells_by s (Submits kind (Again k)) =
      subst (Tells s) (sym (ap (λ (x : HostStep). x.outcome) k.gives)) (
        k.head,
        k.body,
        k.resent,
        k.moment,
        k.own,
        k.mark,
        k.failed,
        k.is,
        sym k.same,
        refl,
        is_member es k.place (Posted k.head k.body k.resent k.moment k.verdict) k.stands,
        k.gives ∙ ap (λ (e : List ℕ). record { adds = None; sends = framed FrameKind.Ack e (verdict_ack c.env k.head k.moment k.verdict 80) ∷ []; outcome = Known k.head.imad k.verdict }) k.own_line,
      )
  tells_by s (Submits kind (Away a)) = subst (Tells s) (sym (ap (λ (x : HostStep). x.outcome) a.gives)) (kind, a.identified, a.gives)
  tells_by s (Retrieves p asks gives) = subst (Tells s) (sym (ap (λ (x : HostStep). x.outcome) gives)) (p, asks, refl, gives)
  tells_by s (GoesOn date asks later gives) = subst (Tells s) (sym (ap (λ (x : HostStep). x.outcome) gives)) (asks, later, gives)
  tells_by s (StaysAt date asks early gives) = subst (Tells s) (sym (ap (λ (x : HostStep). x.outcome) gives)) (date, asks, early, refl, gives)
  tells_by s (Refuses asks gives) = subst (Tells s) (sym (ap (λ (x : HostStep). x.outcome) gives)) (asks, gives)

  pub told : (o : HostOutcome) → (host_step c es f reading).outcome ≡ o → Tells (host_step c es f reading) o
  told o is = subst (Tells (host_step c es f reading)) is (tells_by (host_step c es f reading) (step_case c es f reading))

  -- to whom a frame goes
  abbrev pub ToWhom : Frame → Type 0
  ToWhom g = (g.kind ≡ FrameKind.Ack → g.endpoint ≡ f.endpoint)
      × (g.kind ≡ FrameKind.Output → ((f.kind ≡ FrameKind.Retrieve) × (g.endpoint ≡ f.endpoint)) ⊎ (has_endpoint c.accounts g.endpoint ≡ true))

  abbrev SendsTo : HostStep → Type 0
  SendsTo s = (g : Frame) → Contains s.sends g → ToWhom g

  part_goes : (x : Entry) (g : Frame) → ((k : Frame) → ack_of c 32 x ≡ Some k → ToWhom k) → Part c es x 32 g → ToWhom g
  part_goes x g ack (Acked sent) = ack g sent
  part_goes x g ack (Given e i at there sent) =
      subst ToWhom sent ((λ kind. absurd (let both : FrameKind.Output ≡ FrameKind.Ack = kind in cc)), (λ kind. inr (served c.accounts e at)))

  goes_by : (s : HostStep) → StepCase c es f t s → SendsTo s
  goes_by s (Submits kind (New p)) =
      let x : Entry = Posted p.head p.body (p.mark == 80) t p.verdict in
      let own : ToWhom (framed FrameKind.Ack p.head.imad.source (verdict_ack c.env p.head t p.verdict 32)) =
      ((λ kind. p.own_line), (λ kind. absurd (let both : FrameKind.Ack ≡ FrameKind.Output = kind in cc))) in
      subst SendsTo (sym p.gives)
      (λ g there. part_goes x g (λ k is. let same : framed FrameKind.Ack p.head.imad.source (verdict_ack c.env p.head t p.verdict 32) ≡ k = cc in subst ToWhom same own)
      (part_of c es x 32 g there))
  goes_by s (Submits kind (Again k)) =
      subst SendsTo (sym k.gives) (λ g there. subst ToWhom (sym (single _ g there))
      ((λ kind. k.own_line), (λ kind. absurd (let both : FrameKind.Ack ≡ FrameKind.Output = kind in cc))))
  goes_by s (Submits kind (Away a)) =
      subst SendsTo (sym a.gives) (λ g there. subst ToWhom (sym (single _ g there))
      ((λ kind. refl), (λ kind. absurd (let both : FrameKind.Ack ≡ FrameKind.Output = kind in cc))))
  goes_by s (Retrieves p asks gives) =
      subst SendsTo (sym gives) (λ g there.
      let from = from_map (λ i. output c f.endpoint i 82) (retrieved c es f.endpoint p) g there in
      subst ToWhom from.2 ((λ kind. refl), (λ kind. inl (asks.kind, refl))))
  goes_by s (GoesOn date asks later gives) =
      subst SendsTo (sym gives) (λ g there. part_goes (Roll t date) g (λ k is. absurd cc) (part_of c es (Roll t date) 32 g there))
  goes_by s (StaysAt date asks early gives) = subst SendsTo (sym gives) (λ g there. absurd (none_in g there))
  goes_by s (Refuses asks gives) = subst SendsTo (sym gives) (λ g there. absurd (none_in g there))

  pub goes_to : (g : Frame) → Contains (host_step c es f reading).sends g → ToWhom g
  goes_to g there = goes_by (host_step c es f reading) (step_case c es f reading) g there

  -- a step that adds an entry sends that entry's frames
  abbrev SendsOwn : HostStep → Type 0
  SendsOwn s = (x : Entry) → s.adds ≡ Some x → s.sends ≡ frames_of c es x 32

  own_by : (s : HostStep) → StepCase c es f t s → SendsOwn s
  own_by s (Submits kind (New p)) =
      subst SendsOwn (sym p.gives) (λ x adds. let same : Posted p.head p.body (p.mark == 80) t p.verdict ≡ x = cc in ap (λ (y : Entry). frames_of c es y 32) same)
  own_by s (Submits kind (Again k)) = subst SendsOwn (sym k.gives) (λ x adds. absurd cc)
  own_by s (Submits kind (Away a)) = subst SendsOwn (sym a.gives) (λ x adds. absurd cc)
  own_by s (Retrieves p asks gives) = subst SendsOwn (sym gives) (λ x adds. absurd cc)
  own_by s (GoesOn date asks later gives) =
      subst SendsOwn (sym gives) (λ x adds. let same : Roll t date ≡ x = cc in ap (λ (y : Entry). frames_of c es y 32) same)
  own_by s (StaysAt date asks early gives) = subst SendsOwn (sym gives) (λ x adds. absurd cc)
  own_by s (Refuses asks gives) = subst SendsOwn (sym gives) (λ x adds. absurd cc)

  pub sends_own : (x : Entry) → (host_step c es f reading).adds ≡ Some x → (host_step c es f reading).sends ≡ frames_of c es x 32
  sends_own x adds = own_by (host_step c es f reading) (step_case c es f reading) x adds

  -- what a frame asks settles the step
  pub strange_where : (IsRequest f → ⊥) → (host_step c es f reading).outcome ≡ Strange
  strange_where asks = by_case (host_step c es f reading) (step_case c es f reading)
    where
      by_case : (s : HostStep) → StepCase c es f t s → s.outcome ≡ Strange
      by_case s (Submits kind how) = absurd (asks (inl kind))
      by_case s (Retrieves p r gives) = absurd (asks (inr (inl (p, r))))
      by_case s (GoesOn date r later gives) = absurd (asks (inr (inr (date, r))))
      by_case s (StaysAt date r early gives) = absurd (asks (inr (inr (date, r))))
      by_case s (Refuses own gives) = ap (λ (x : HostStep). x.outcome) gives

  asks_roll : (date : ℕ) → IsRoll f date → host_step c es f reading ≡ roll_to c es t date
  asks_roll date r =
      ap (λ (k : FrameKind). step_at c es t k f.endpoint f.payload) r.kind
      ∙ ap (roll_step c es f.endpoint t) (date_there f.payload date r.payload r.day)
      ∙ ap (λ (b : Bool). cond b (roll_to c es t date) strange) (bytes_pass f.endpoint operator r.sender)

  pub rolls_on : (date : ℕ) → IsRoll f date → cycle c es < date
      → host_step c es f reading ≡ record { adds = Some (Roll t date); sends = frames_of c es (Roll t date) 32; outcome = Rolled date }
  rolls_on date r later =
      asks_roll date r
      ∙ ap (λ (b : Bool). cond b (record { adds = Some (Roll t date); sends = frames_of c es (Roll t date) 32; outcome = Rolled date })
      (record { adds = None; sends = []; outcome = NotLater (cycle c es) })) (lt-ltb (cycle c es) date later)

  pub stays_on : (date : ℕ) → IsRoll f date → date ≤ cycle c es → host_step c es f reading ≡ record { adds = None; sends = []; outcome = NotLater (cycle c es) }
  stays_on date r early =
      asks_roll date r
      ∙ ap (λ (b : Bool). cond b (record { adds = Some (Roll t date); sends = frames_of c es (Roll t date) 32; outcome = Rolled date })
      (record { adds = None; sends = []; outcome = NotLater (cycle c es) })) (le-ltb (cycle c es) date early)

  pub gives_again : (p : OutPos) → IsRetrieve f p
      → host_step c es f reading
      ≡ record { adds = None; sends = map (λ i. output c f.endpoint i 82) (retrieved c es f.endpoint p); outcome = Retrieved (length (retrieved c es f.endpoint p)) }
  gives_again p r =
      ap (λ (k : FrameKind). step_at c es t k f.endpoint f.payload) r.kind ∙ ap (retrieve_step c es f.endpoint) (position_there f.payload p r.payload r.position)

  pub takes_turn : f.kind ≡ FrameKind.Submit
      → ((host_step c es f reading).adds ≡ (submitted c es f.endpoint reading f.payload).adds)
      × ((host_step c es f reading).outcome ≡ (submitted c es f.endpoint reading f.payload).outcome)
  takes_turn is = (
    ap (λ (k : FrameKind). (step_at c es t k f.endpoint f.payload).adds) is,
    ap (λ (k : FrameKind). (step_at c es t k f.endpoint f.payload).outcome) is,
  )

  -- how many frames tell an outcome
  post_count : (h : Head) (body : List ℕ) (resent : Bool) (moment : ℕ) (v : Verdict) → Follows c es (Posted h body resent moment v)
      → length (frames_of c es (Posted h body resent moment v) 32) ≡ cond (is_taken v) 2 1
  post_count h body resent moment (Taken dest seq) follows = ap length (taken_frames c es 32 h body resent moment dest seq follows)
  post_count h body resent moment (Refused why) follows = ap length (refused_frames c es 32 h body resent moment why)

  pub recorded_count : (imad : Imad) (v : Verdict) → (host_step c es f reading).outcome ≡ Recorded imad v → length (host_step c es f reading).sends ≡ cond (is_taken v) 2 1
  recorded_count imad v is =
      let w = told (Recorded imad v) is in
      let adds = ap (λ (s : HostStep). s.adds) w.5 in
      ap (λ (s : HostStep). length s.sends) w.5
      ∙ post_count w.0 w.1 w.2 t v (step_follows c es f reading (Posted w.0 w.1 w.2 t v) adds)

  pub rolled_count : (date : ℕ) → (host_step c es f reading).outcome ≡ Rolled date → length (host_step c es f reading).sends ≡ length (endpoints_of c.accounts)
  rolled_count date is =
      ap (λ (s : HostStep). length s.sends) (told (Rolled date) is).2 ∙ ap length (roll_frames c es 32 t date) ∙ length-map (endpoints_of c.accounts) _

  pub retrieved_count : (n : ℕ) → (host_step c es f reading).outcome ≡ Retrieved n
      → (((host_step c es f reading).adds ≡ None) × (length (host_step c es f reading).sends ≡ n)) × (n ≤ 64)
  retrieved_count n is =
      let w = told (Retrieved n) is in
      let count = length-map (retrieved c es f.endpoint w.0) (λ i. output c f.endpoint i 82) in
      let few : length (retrieved c es f.endpoint w.0) ≡ min 64 _ = length-take 64 (filter (is_from w.0) (outputs c es f.endpoint)) in
      ((ap (λ (s : HostStep). s.adds) w.3, ap (λ (s : HostStep). length s.sends) w.3 ∙ count ∙ sym w.2), omega (arith, few, w.2))
