-- What a step adds, sends and tells, by its frame's kind and by the decision on a submission.
use Rattle.std.proofs.Common.{◌≡◌, refl, sym, ap, ◌∙◌, ℕ, ◌==◌, Bool, true, false, if◌then◌else◌, List, [], ◌∷◌, ◌++◌, append-nil, length, drop, max, inr, subst, ◌-◌, ◌≤◌, Option, Some, None, Result, Ok, Err, le_trans, arith}
use Rattle.std.specs.Prelude.{IfOk, IfSome, IsTrue, OnOk, bytes_eq, is_some}
use Rattle.std.specs.Option.{option_to_list}
use Rattle.faim_base.specs.declared.ids.Imad.{Imad}
use Rattle.faim_base.specs.declared.ids.OutPos.{OutPos}
use Rattle.faim_base.specs.declared.judgement.Head.{Head}
use Rattle.faim_base.specs.declared.judgement.Reject.{Reject}
use Rattle.faim_base.specs.declared.judgement.Verdict.{Verdict}
use Rattle.faim_base.specs.Numbers.{IsMoment, last_minute}
use Rattle.faim_base.specs.Ranges.{IsEndpoint, IsImad}
use Rattle.faim_base.specs.Refusals.{h102, x201}
use Rattle.faim_edits.specs.Texts.{is_turned_away}
use Rattle.faim_message.specs.Spelling.{message_spelling}
use Rattle.host_ledger.specs.declared.config.Config.{Config}
use Rattle.host_ledger.specs.declared.entries.Entry.{Entry}
use Rattle.host_ledger.specs.declared.entries.Entry.TheVariants.{Posted}
use Rattle.host_ledger.specs.Soundness.{IsConfig, operator}
use Rattle.link_frames.specs.declared.frame.FrameKind.{FrameKind}
use Rattle.link_frames.specs.Frames.{Content as Frame, greatest_payload}
use Rattle.faim_model.specs.declared.decisions.Decision.{Decision}
use Rattle.faim_model.specs.declared.decisions.HostOutcome.TheVariants.{Recorded, TurnedAway}
use Rattle.faim_model.specs.Submissions.{Numbered, Submission, submission}
use Rattle.faim_model.specs.Lawful.{last_moment}
use Rattle.faim_model.specs.Verdicts.{Answer, Now, Before, Turned, answer_of, judged, verdict_on}
use Rattle.faim_model.specs.Turns.{adds_to, answered, effective, entry_at, told_again}
use Rattle.faim_model.specs.Acks.{turned_ack}
use Rattle.faim_model.specs.Frames.{ack, has_identifier, turned}
use Rattle.faim_model.proofs.Covering.{covered_fits}
use Rattle.host_core.specs.State.{State}
use Rattle.host_turns.specs.declared.reading.ReadText.{ReadText}
use Rattle.host_turns.specs.Reading.{submission_of}
use Rattle.faim_model.specs.Sending.{frames_of}
use Rattle.faim_model.specs.Steps.{HostStep, answering, date_in, first_frames, host_step, position_in, retrieve_step, roll_step, roll_to, step_at, strange, submit_step}
use Rattle.host_node.specs.declared.preparing.Prepared.{Prepared}
use Rattle.host_node.specs.Preparing.{bytes_sent, told}

pub on_ok : {T E : Type 0} (r : Result T E) (P : Type 0) → P → OnOk r P
on_ok (Ok x) P p = p
on_ok (Err e) P p = tt

-- the outcome of what is told, and whether an entry is added
pub outcome_told : {E : Type 0} (r : Result Prepared E) (step : HostStep) → IfOk r (λ p. p ≡ told step) → IfOk r (λ p. p.outcome ≡ step.outcome)
outcome_told (Ok p) step is = ap (λ (q : Prepared). q.outcome) is
outcome_told (Err e) step is = tt

-- a step that does nothing sends no bytes
pub none_sent : (old : List (List ℕ)) (step : HostStep) → step ≡ strange → old ≡ old ++ bytes_sent step
none_sent old step is = sym (append-nil old) ∙ ap (λ (s : HostStep). old ++ bytes_sent s) (sym is)

pub none_added : (es : List Entry) (step : HostStep) → step ≡ strange → es ≡ adds_to step.adds es
none_added es step is = ap (λ (s : HostStep). adds_to s.adds es) (sym is)

-- an entry that was added is taken back
drop_first : (x : Entry) (es : List Entry) (place : ℕ) → place ≡ length es → drop (length (x ∷ es) - place) (x ∷ es) ≡ es
drop_first x es place same =
    let one : length (x ∷ es) - place ≡ 1 = omega (arith, same) in
    ap (λ (n : ℕ). drop n (x ∷ es)) one

pub cut_back : (x : Entry) (old mid new : State) (place : ℕ) → place ≡ length old.entries → mid ≡ record { config = old.config; entries = x ∷ old.entries }
    → new ≡ record { config = mid.config; entries = drop (length mid.entries - place) mid.entries } → new ≡ old
cut_back x old mid new place same added cut =
    cut ∙ ap (λ (s : State). record { config = s.config; entries = drop (length s.entries - place) s.entries }) added
    ∙ ap (λ (l : List Entry). record { config = old.config; entries = l }) (drop_first x old.entries place same)

-- the acknowledgement that turns a submission away fits a frame
pub turned_fits : (c : Config) (why : Reject) (imad : Option Imad) (moment : ℕ) (line : List ℕ) → IsConfig c → IsTrue (is_turned_away why)
    → is_some imad ≡ has_identifier why → IfSome imad IsImad → IsMoment moment → IsEndpoint line
    → length (message_spelling (turned_ack c.env why imad moment)) ≤ greatest_payload
turned_fits c why imad moment line sound away identified imad_sound timed named =
    let begun : 0 ≤ last_minute = omega arith in
    (covered_fits c [] (turned c why imad moment line) sound tt begun
    (inr (inr (record {
      why = why;
      away = away;
      imad = imad;
      identified = identified;
      imad_sound = imad_sound;
      moment = moment;
      moment_sound = timed;
      line = line;
      line_sound = named;
      sent = refl;
    })))).payload

-- the newest entry is of the calendar where the effective moment is
pub newest_timed : (es : List Entry) (reading moment : ℕ) → IsMoment moment → moment ≡ effective es reading → IsMoment (last_moment es)
newest_timed es reading moment timed is =
    let high : last_moment es ≤ max reading (last_moment es) = omega arith in
    le_trans high (subst IsMoment is timed)

-- a submission by what was read of its text
pub text_step : (c : Config) (es : List Entry) (line : List ℕ) (reading moment env : ℕ) (text : List ℕ) (r k : ReadText)
    → r ≡ k → submission_of r ≡ submission env text → env ≡ c.env → moment ≡ effective es reading
    → submit_step c es line moment (submission_of k) ≡ submit_step c es line (effective es reading) (submission c.env text)
text_step c es line reading moment env text r k is what own now =
    let same : submission_of k ≡ submission c.env text = sym (ap (λ (x : ReadText). submission_of x) is) ∙ what ∙ ap (λ (e : ℕ). submission e text) own in
    ap (λ (t : ℕ). submit_step c es line t (submission_of k)) now ∙ ap (λ (s : Submission). submit_step c es line (effective es reading) s) same

-- the step of each kind of frame
module _ (c : Config) (es : List Entry) (f : Frame) (reading : ℕ) (line : List ℕ) (own : line ≡ f.endpoint) where
  pub submits : f.kind ≡ FrameKind.Submit
      → submit_step c es line (effective es reading) (submission c.env f.payload) ≡ host_step c es f reading
  submits is =
      ap (λ (e : List ℕ). submit_step c es e (effective es reading) (submission c.env f.payload)) own
      ∙ sym (ap (λ (k : FrameKind). step_at c es (effective es reading) k f.endpoint f.payload) is)

  pub retrieves : f.kind ≡ FrameKind.Retrieve → retrieve_step c es line (position_in f.payload) ≡ host_step c es f reading
  retrieves is =
      ap (λ (e : List ℕ). retrieve_step c es e (position_in f.payload)) own
      ∙ sym (ap (λ (k : FrameKind). step_at c es (effective es reading) k f.endpoint f.payload) is)

  pub rolls : f.kind ≡ FrameKind.Roll → roll_step c es line (effective es reading) (date_in f.payload) ≡ host_step c es f reading
  rolls is =
      ap (λ (e : List ℕ). roll_step c es e (effective es reading) (date_in f.payload)) own
      ∙ sym (ap (λ (k : FrameKind). step_at c es (effective es reading) k f.endpoint f.payload) is)

pub is_strange : (c : Config) (es : List Entry) (f : Frame) (reading : ℕ) (kind : FrameKind) → f.kind ≡ kind
    → step_at c es (effective es reading) kind f.endpoint f.payload ≡ strange → host_step c es f reading ≡ strange
is_strange c es f reading kind is none = ap (λ (k : FrameKind). step_at c es (effective es reading) k f.endpoint f.payload) is ∙ none

-- a retrieval adds nothing
pub retrieval_adds : (c : Config) (es : List Entry) (e : List ℕ) (at : Option OutPos) → (retrieve_step c es e at).adds ≡ None
retrieval_adds c es e None = refl
retrieval_adds c es e (Some p) = refl

-- a Roll by who asks for it
pub own_roll : (c : Config) (es : List Entry) (e : List ℕ) (t date : ℕ) (found : Option ℕ) → found ≡ Some date → bytes_eq e operator ≡ true
    → roll_to c es t date ≡ roll_step c es e t found
own_roll c es e t date found is own =
    sym (ap (roll_step c es e t) is ∙ ap (λ (b : Bool). if b then roll_to c es t date else strange) own)

pub other_roll : (c : Config) (es : List Entry) (e : List ℕ) (t date : ℕ) (found : Option ℕ) → found ≡ Some date → bytes_eq e operator ≡ false
    → roll_step c es e t found ≡ strange
other_roll c es e t date found is other =
    ap (roll_step c es e t) is ∙ ap (λ (b : Bool). if b then roll_to c es t date else strange) other

-- a submission by the decision on it
module _ (c : Config) (es : List Entry) (line : List ℕ) (t : ℕ) (h : Head) (body : List ℕ) (mark : ℕ) (failed : Option Reject) where
  by_answer : (a : Answer) → verdict_on c es line t (Numbered h body mark failed) ≡ a
      → submit_step c es line t (Numbered h body mark failed)
      ≡ record { adds = (answered es t h body mark a).adds; sends = answering c es line t (Numbered h body mark failed) a; outcome = (answered es t h body mark a).outcome }
  by_answer a is k = record {
    adds = (answered es t h body mark (is k)).adds;
    sends = answering c es line t (Numbered h body mark failed) (is k);
    outcome = (answered es t h body mark (is k)).outcome;
  }

  pub new_step : (v : Verdict) → judged c es line t h body failed ≡ Decision.New v
      → record { adds = Some (Posted h body (mark == 80) t v); sends = frames_of c es (Posted h body (mark == 80) t v) 32; outcome = Recorded h.imad v }
      ≡ submit_step c es line t (Numbered h body mark failed)
  new_step v is =
      let x : Entry = Posted h body (mark == 80) t v in
      sym (by_answer (Now v) (ap answer_of is)
      ∙ (λ k. record { adds = Some x; sends = first_frames c es (answered es t h body mark (answer_of (is k))).adds; outcome = Recorded h.imad v })
      ∙ (λ k. record { adds = Some x; sends = append-nil (frames_of c es x 32) k; outcome = Recorded h.imad v }))

  pub known_step : (place : ℕ) → judged c es line t h body failed ≡ Decision.Known place
      → record { adds = None; sends = option_to_list (ack c es place 80); outcome = told_again (entry_at es place) }
      ≡ submit_step c es line t (Numbered h body mark failed)
  known_step place is = sym (by_answer (Before place) (ap answer_of is))

  pub differs_step : (place : ℕ) → judged c es line t h body failed ≡ Decision.Differs place
      → record { adds = None; sends = turned c x201 (Some h.imad) t line ∷ []; outcome = TurnedAway x201 }
      ≡ submit_step c es line t (Numbered h body mark failed)
  differs_step place is = sym (by_answer (Turned x201) (ap answer_of is))

  pub foreign_step : judged c es line t h body failed ≡ Decision.WrongSource
      → record { adds = None; sends = turned c h102 (Some h.imad) t line ∷ []; outcome = TurnedAway h102 }
      ≡ submit_step c es line t (Numbered h body mark failed)
  foreign_step is = sym (by_answer (Turned h102) (ap answer_of is))
