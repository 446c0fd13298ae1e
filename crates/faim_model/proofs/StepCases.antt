-- The host's step over a frame, by cases.
use Rattle.std.proofs.Common.{◌≡◌, ⊎_elim, refl, sym, ap, ◌∙◌, ℕ, ◌<◌, ◌≤◌, ◌==◌, Bool, true, false, cond, List, [], ◌∷◌, append-nil, length, map, Option, Some, None, option_and_then}
use Rattle.std.specs.Prelude.{bytes_eq, nat_lt, is_some}
use Rattle.std.specs.Option.{option_to_list}
use Rattle.std.proofs.lemmas.Bool.{ltb-false, ltb-true}
use Rattle.faim_base.specs.declared.ids.Imad.{Imad}
use Rattle.faim_base.specs.declared.ids.OutPos.{OutPos}
use Rattle.faim_base.specs.declared.judgement.Head.{Head}
use Rattle.faim_base.specs.declared.judgement.Reject.{Reject}
use Rattle.faim_base.specs.declared.judgement.Verdict.{Verdict}
use Rattle.faim_base.specs.Refusals.{e001, e002, h102, x201}
use Rattle.faim_edits.specs.Texts.{is_turned_away}
use Rattle.host_ledger.specs.declared.config.Config.{Config}
use Rattle.host_ledger.specs.declared.entries.Entry.{Entry}
use Rattle.host_ledger.specs.declared.entries.Entry.TheVariants.{Posted, Roll}
use Rattle.host_ledger.specs.Soundness.{operator}
use Rattle.host_ledger.specs.Sums.{cycle}
use Rattle.link_frames.specs.declared.frame.FrameKind.{FrameKind}
use Rattle.link_frames.specs.Frames.{Content as Frame}
use Rattle.faim_model.specs.declared.decisions.Decision.{Decision}
use Rattle.faim_model.specs.declared.decisions.HostOutcome.TheVariants.{Recorded, Known, TurnedAway, Retrieved, Rolled, NotLater, Strange}
use Rattle.faim_model.specs.Outputs.{retrieved}
use Rattle.faim_model.specs.Submissions.{Submission, Unnumbered, Numbered, submission, Strange as NoMessage}
use Rattle.faim_model.specs.Verdicts.{Answer, Now, Before, Turned, answer_of, has_body, has_imad, judged, place_of, verdict_on}
use Rattle.faim_model.specs.Turns.{answered, effective, entry_at, told_again}
use Rattle.faim_model.specs.Acks.{verdict_ack}
use Rattle.faim_model.specs.Frames.{ack_of, framed, has_identifier, output, turned}
use Rattle.faim_model.specs.Sending.{frames_of}
use Rattle.faim_model.specs.Requests.{IsRequest, IsRetrieve, IsRoll}
use Rattle.faim_model.specs.Steps.{HostStep, answering, date_in, first_frames, host_step, identifier, position_in, retrieve_step, roll_step, roll_to, step_at, strange, submit_step}
use Rattle.faim_model.proofs.Asked.{date_found, date_there, position_found, position_there}
use Rattle.faim_model.proofs.Imads.{bytes_equal, bytes_pass}
use Rattle.faim_model.proofs.Kept.{kept_at}
use Rattle.faim_model.proofs.Told.{DecisionCase, Foreign, Repeated, Other, Fresh, decision_case_of}

-- what a step is that posts a message; that tells a verdict again; that turns a submission away
pub record Posts (c : Config) (es : List Entry) (line : List ℕ) (t : ℕ) (sub : Submission) (s : HostStep) : Type 0 where
  pub head : Head
  pub body : List ℕ
  pub mark : ℕ
  pub failed : Option Reject
  pub verdict : Verdict
  pub is : sub ≡ Numbered head body mark failed
  pub judges : judged c es line t head body failed ≡ Decision.New verdict
  pub own_line : head.imad.source ≡ line
  pub gives : s ≡ record {
    adds = Some (Posted head body (mark == 80) t verdict);
    sends = frames_of c es (Posted head body (mark == 80) t verdict) 32;
    outcome = Recorded head.imad verdict;
  }

pub record Tells (c : Config) (es : List Entry) (line : List ℕ) (t : ℕ) (sub : Submission) (s : HostStep) : Type 0 where
  pub own : Head
  pub body : List ℕ
  pub mark : ℕ
  pub failed : Option Reject
  pub is : sub ≡ Numbered own body mark failed
  pub place : ℕ
  pub head : Head
  pub resent : Bool
  pub moment : ℕ
  pub verdict : Verdict
  pub stands : entry_at es place ≡ Some (Posted head body resent moment verdict)
  pub same : head.imad ≡ own.imad
  pub own_line : head.imad.source ≡ line
  pub gives : s ≡ record { adds = None; sends = framed FrameKind.Ack head.imad.source (verdict_ack c.env head moment verdict 80) ∷ []; outcome = Known head.imad verdict }

pub record TurnsAway (c : Config) (es : List Entry) (line : List ℕ) (t : ℕ) (sub : Submission) (s : HostStep) : Type 0 where
  pub why : Reject
  pub away : is_turned_away why ≡ true
  pub identified : is_some (identifier sub) ≡ has_identifier why
  pub gives : s ≡ record { adds = None; sends = turned c why (identifier sub) t line ∷ []; outcome = TurnedAway why }

pub data SubmitCase (c : Config) (es : List Entry) (line : List ℕ) (t : ℕ) (sub : Submission) (s : HostStep) : Type 0 where
  New : Posts c es line t sub s → SubmitCase c es line t sub s
  Again : Tells c es line t sub s → SubmitCase c es line t sub s
  Away : TurnsAway c es line t sub s → SubmitCase c es line t sub s

module _ (c : Config) (es : List Entry) (line : List ℕ) (t : ℕ) where
  -- what the answer to a message makes of its step
  by_answer : (h : Head) (body : List ℕ) (mark : ℕ) (failed : Option Reject) (a : Answer) → verdict_on c es line t (Numbered h body mark failed) ≡ a
      → submit_step c es line t (Numbered h body mark failed)
      ≡ record { adds = (answered es t h body mark a).adds; sends = answering c es line t (Numbered h body mark failed) a; outcome = (answered es t h body mark a).outcome }
  by_answer h body mark failed a is k = record {
    adds = (answered es t h body mark (is k)).adds;
    sends = answering c es line t (Numbered h body mark failed) (is k);
    outcome = (answered es t h body mark (is k)).outcome;
  }

  decided : (h : Head) (body : List ℕ) (mark : ℕ) (failed : Option Reject) (own : Bool) (known differs : Option ℕ)
      → bytes_eq h.imad.source line ≡ own → place_of (has_body h.imad body) es ≡ known → DecisionCase own known differs (judged c es line t h body failed)
      → SubmitCase c es line t (Numbered h body mark failed) (submit_step c es line t (Numbered h body mark failed))
  decided h body mark failed own known differs at_own at (Foreign foreign is) =
      Away (record { why = h102; away = refl; identified = refl; gives = by_answer h body mark failed (Turned h102) (ap answer_of is) })
  decided h body mark failed own known differs at_own at (Repeated there place found is) =
      let kept = kept_at es place h.imad body (at ∙ found) in
      Again (record {
        own = h;
        body = body;
        mark = mark;
        failed = failed;
        is = refl;
        place = place;
        head = kept.head;
        resent = kept.resent;
        moment = kept.moment;
        verdict = kept.verdict;
        stands = kept.stands;
        same = kept.own;
        own_line = ap (λ (i : Imad). i.source) kept.own ∙ bytes_equal h.imad.source line (at_own ∙ there);
        gives = by_answer h body mark failed (Before place) (ap answer_of is)
            ∙ (λ k. record { adds = None; sends = option_to_list (option_and_then (ack_of c 80) (kept.stands k)); outcome = told_again (kept.stands k) });
      })
  decided h body mark failed own known differs at_own at (Other there unknown place found is) =
      Away (record { why = x201; away = refl; identified = refl; gives = by_answer h body mark failed (Turned x201) (ap answer_of is) })
  decided h body mark failed own known differs at_own at (Fresh there unknown fresh v is) =
      New (record {
        head = h;
        body = body;
        mark = mark;
        failed = failed;
        verdict = v;
        is = refl;
        judges = is;
        own_line = bytes_equal h.imad.source line (at_own ∙ there);
        gives = by_answer h body mark failed (Now v) (ap answer_of is)
            ∙ (λ k. record {
              adds = Some (Posted h body (mark == 80) t v);
              sends = first_frames c es (answered es t h body mark (answer_of (is k))).adds;
              outcome = Recorded h.imad v;
            })
            ∙ (λ k. record {
              adds = Some (Posted h body (mark == 80) t v);
              sends = append-nil (frames_of c es (Posted h body (mark == 80) t v) 32) k;
              outcome = Recorded h.imad v;
            });
      })

  submit_case : (s : Submission) → SubmitCase c es line t s (submit_step c es line t s)
  submit_case NoMessage = Away (record { why = e001; away = refl; identified = refl; gives = refl })
  submit_case Unnumbered = Away (record { why = e002; away = refl; identified = refl; gives = refl })
  submit_case (Numbered h body mark failed) =
      decided h body mark failed (bytes_eq h.imad.source line) (place_of (has_body h.imad body) es) (place_of (has_imad h.imad) es) refl refl
      (decision_case_of c es line t h body failed)

-- a step by what the frame asks
pub data StepCase (c : Config) (es : List Entry) (f : Frame) (t : ℕ) (s : HostStep) : Type 0 where
  Submits : f.kind ≡ FrameKind.Submit → SubmitCase c es f.endpoint t (submission c.env f.payload) s → StepCase c es f t s
  Retrieves : (p : OutPos) → IsRetrieve f p
      → s ≡ record { adds = None; sends = map (λ i. output c f.endpoint i 82) (retrieved c es f.endpoint p); outcome = Retrieved (length (retrieved c es f.endpoint p)) }
      → StepCase c es f t s
  GoesOn : (date : ℕ) → IsRoll f date → cycle c es < date
      → s ≡ record { adds = Some (Roll t date); sends = frames_of c es (Roll t date) 32; outcome = Rolled date } → StepCase c es f t s
  StaysAt : (date : ℕ) → IsRoll f date → date ≤ cycle c es → s ≡ record { adds = None; sends = []; outcome = NotLater (cycle c es) } → StepCase c es f t s
  Refuses : (IsRequest f → ⊥) → s ≡ record { adds = None; sends = []; outcome = Strange } → StepCase c es f t s

module _ (c : Config) (es : List Entry) (f : Frame) (t : ℕ) where
  -- a frame of a kind asks for nothing where it asks for nothing of that kind
  asks_nothing : (k : FrameKind) → f.kind ≡ k → (k ≡ FrameKind.Submit → ⊥) → ((p : OutPos) → k ≡ FrameKind.Retrieve → IsRetrieve f p → ⊥)
      → ((date : ℕ) → k ≡ FrameKind.Roll → IsRoll f date → ⊥) → IsRequest f → ⊥
  asks_nothing k is submit retrieve roll request =
      ⊎_elim (λ (a : f.kind ≡ FrameKind.Submit). submit (sym is ∙ a))
      (λ more. ⊎_elim (λ (a : (p : OutPos) × IsRetrieve f p). retrieve a.0 (sym is ∙ a.1.kind) a.1)
      (λ (a : (date : ℕ) × IsRoll f date). roll a.0 (sym is ∙ a.1.kind) a.1) more) request

  retrieve_case : (at : Option OutPos) → f.kind ≡ FrameKind.Retrieve → position_in f.payload ≡ at → StepCase c es f t (retrieve_step c es f.endpoint at)
  retrieve_case None kind is =
      Refuses (asks_nothing FrameKind.Retrieve kind (λ other. absurd cc)
      (λ p same r. let there : None ≡ Some p = sym is ∙ position_there f.payload p r.payload r.position in absurd cc) (λ date other r. absurd cc)) refl
  retrieve_case (Some p) kind is =
      let found = position_found f.payload p is in
      Retrieves p (record { kind = kind; position = found.1; payload = found.0 }) refl

  later_case : (date : ℕ) (later : Bool) → IsRoll f date → nat_lt (cycle c es) date ≡ later
      → StepCase c es f t (cond later (record { adds = Some (Roll t date); sends = frames_of c es (Roll t date) 32; outcome = Rolled date })
      (record { adds = None; sends = []; outcome = NotLater (cycle c es) }))
  later_case date true asks is = GoesOn date asks (ltb-true (cycle c es) date is) refl
  later_case date false asks is = StaysAt date asks (ltb-false (cycle c es) date is) refl

  operator_case : (date : ℕ) (own : Bool) → f.kind ≡ FrameKind.Roll → date_in f.payload ≡ Some date → bytes_eq f.endpoint operator ≡ own
      → StepCase c es f t (cond own (roll_to c es t date) strange)
  operator_case date true kind is own =
      let found = date_found f.payload date is in
      later_case date (nat_lt (cycle c es) date) (record { kind = kind; sender = bytes_equal f.endpoint operator own; day = found.1; payload = found.0 }) refl
  operator_case date false kind is own =
      Refuses (asks_nothing FrameKind.Roll kind (λ other. absurd cc) (λ p other r. absurd cc)
      (λ other same r. let both : true ≡ false = sym (bytes_pass f.endpoint operator r.sender) ∙ own in absurd cc)) refl

  roll_case : (date : Option ℕ) → f.kind ≡ FrameKind.Roll → date_in f.payload ≡ date → StepCase c es f t (roll_step c es f.endpoint t date)
  roll_case None kind is =
      Refuses (asks_nothing FrameKind.Roll kind (λ other. absurd cc) (λ p other r. absurd cc)
      (λ date same r. let there : None ≡ Some date = sym is ∙ date_there f.payload date r.payload r.day in absurd cc)) refl
  roll_case (Some date) kind is = operator_case date (bytes_eq f.endpoint operator) kind is refl

  other_case : (k : FrameKind) → f.kind ≡ k → (k ≡ FrameKind.Submit → ⊥) → (k ≡ FrameKind.Retrieve → ⊥) → (k ≡ FrameKind.Roll → ⊥) → StepCase c es f t strange
  other_case k is submit retrieve roll = Refuses (asks_nothing k is submit (λ p same r. retrieve same) (λ date same r. roll same)) refl

  kind_case : (k : FrameKind) → f.kind ≡ k → StepCase c es f t (step_at c es t k f.endpoint f.payload)
  kind_case FrameKind.Submit is = Submits is (submit_case c es f.endpoint t (submission c.env f.payload))
  kind_case FrameKind.Retrieve is = retrieve_case (position_in f.payload) is refl
  kind_case FrameKind.Roll is = roll_case (date_in f.payload) is refl
  kind_case FrameKind.Ack is = other_case FrameKind.Ack is (λ same. absurd cc) (λ same. absurd cc) (λ same. absurd cc)
  kind_case FrameKind.Output is = other_case FrameKind.Output is (λ same. absurd cc) (λ same. absurd cc) (λ same. absurd cc)
  kind_case FrameKind.Draft is = other_case FrameKind.Draft is (λ same. absurd cc) (λ same. absurd cc) (λ same. absurd cc)
  kind_case FrameKind.Tick is = other_case FrameKind.Tick is (λ same. absurd cc) (λ same. absurd cc) (λ same. absurd cc)

pub step_case : (c : Config) (es : List Entry) (f : Frame) (reading : ℕ) → StepCase c es f (effective es reading) (host_step c es f reading)
step_case c es f reading = kind_case c es f (effective es reading) f.kind refl
