-- What a list covers a longer one covers, and each covered frame has a message of its form.
use Rattle.std.proofs.Common.{◌≡◌, ⊎_elim, inl, inr, refl, sym, ap, subst, ◌∙◌, ℕ, suc, ◌<◌, ◌≤◌, ◌==◌, Bool, true, false, cond, List, [], ◌∷◌, ◌++◌, length, Option, Some, None, option_and_then, arith}
use Rattle.std.specs.List.{Contains}
use Rattle.std.proofs.lemmas.Bool.{eqb-true}
use Rattle.std.proofs.lemmas.List.Elements.{Contains-append_left}
use Rattle.faim_base.specs.declared.judgement.Head.{Head}
use Rattle.faim_base.specs.declared.judgement.Verdict.{Verdict}
use Rattle.faim_base.specs.Limits.{longest_message}
use Rattle.faim_base.specs.Numbers.{IsMoment}
use Rattle.faim_base.specs.Ranges.{IsEndpoint}
use Rattle.faim_base.specs.Text.{is_text_byte}
use Rattle.faim_message.specs.Spelling.{Content, IsMessage, message_spelling}
use Rattle.faim_message.proofs.Lengths.{message_short}
use Rattle.host_ledger.specs.declared.config.Config.{Config}
use Rattle.host_ledger.specs.declared.entries.Entry.{Entry}
use Rattle.host_ledger.specs.declared.entries.Entry.TheVariants.{Posted, Roll}
use Rattle.host_ledger.specs.Soundness.{IsConfig}
use Rattle.link_frames.specs.declared.frame.FrameKind.TheVariants.{Ack}
use Rattle.link_frames.specs.Frames.{Content as Frame, IsFrame}
use Rattle.faim_model.specs.Outputs.{Item, item_of, outputs}
use Rattle.faim_model.specs.Lawful.{Lawful, last_moment}
use Rattle.faim_model.specs.Turns.{entry_at}
use Rattle.faim_model.specs.Acks.{verdict_ack}
use Rattle.faim_model.specs.Deliveries.{output_message}
use Rattle.faim_model.specs.Frames.{Covered, IsAck, IsAckMark, IsOutput, IsOutputMark, IsTurned, ack, ack_of, framed}
use Rattle.faim_model.proofs.Kept.{is_member}
use Rattle.faim_model.proofs.Places.{at_older}
use Rattle.faim_model.proofs.Ranged.{each_ranged, item_endpoint, item_entry}
use Rattle.faim_model.proofs.Sound.{posted_sound}
use Rattle.faim_model.proofs.Written.{delivery_sound, end_sound, env_text, turned_ack_sound, verdict_ack_sound}

-- where an entry stands is a place of the list
place_below : (es : List Entry) (place : ℕ) (x : Entry) → entry_at es place ≡ Some x → place < length es
place_below [] place x stands = absurd cc
place_below (y ∷ older) place x stands = here (length older == place) refl (place_below older place x) stands
  where
    here : (b : Bool) → (length older == place) ≡ b → (entry_at older place ≡ Some x → place < length older)
        → cond b (Some y) (entry_at older place) ≡ Some x → place < suc (length older)
    here true same later stands = let at : length older ≡ place = eqb-true (length older) place same in omega arith
    here false same later stands = let below : place < length older = later stands in omega arith

-- the entry whose acknowledgement a frame is
pub record AckEntry (c : Config) (es : List Entry) (place mark : ℕ) (f : Frame) : Type 0 where
  pub head : Head
  pub body : List ℕ
  pub resent : Bool
  pub moment : ℕ
  pub verdict : Verdict
  pub stands : entry_at es place ≡ Some (Posted head body resent moment verdict)
  pub frame : framed Ack head.imad.source (verdict_ack c.env head moment verdict mark) ≡ f

by_entry : (c : Config) (es : List Entry) (place mark : ℕ) (f : Frame) (found : Option Entry) → entry_at es place ≡ found
    → option_and_then (ack_of c mark) found ≡ Some f → AckEntry c es place mark f
by_entry c es place mark f None is sent = absurd cc
by_entry c es place mark f (Some (Roll moment date)) is sent = absurd cc
by_entry c es place mark f (Some (Posted h body resent moment v)) is sent =
    record { head = h; body = body; resent = resent; moment = moment; verdict = v; stands = is; frame = cc }

pub ack_entry : (c : Config) (es : List Entry) (place mark : ℕ) (f : Frame) → ack c es place mark ≡ Some f → AckEntry c es place mark f
ack_entry c es place mark f sent = by_entry c es place mark f (entry_at es place) refl sent

-- one entry more
ack_stays : (c : Config) (es : List Entry) (x : Entry) (f : Frame) → IsAck c es f → IsAck c (x ∷ es) f
ack_stays c es x f a =
    let e = ack_entry c es a.place a.mark f a.sent in
    let below : a.place < length es = place_below es a.place (Posted e.head e.body e.resent e.moment e.verdict) e.stands in
    record { place = a.place; mark = a.mark; marked = a.marked; sent = ap (option_and_then (ack_of c a.mark)) (at_older x es a.place below) ∙ a.sent }

output_stays : (c : Config) (es : List Entry) (x : Entry) (f : Frame) → IsOutput c es f → IsOutput c (x ∷ es) f
output_stays c es x f o = record {
  line = o.line;
  item = o.item;
  there = Contains-append_left (outputs c es o.line) (item_of c es (outputs c es o.line) x o.line) o.item o.there;
  mark = o.mark;
  marked = o.marked;
  sent = o.sent;
}

covered_by_one_more : (c : Config) (es : List Entry) (x : Entry) (f : Frame) → Covered c es f → Covered c (x ∷ es) f
covered_by_one_more c es x f covered =
    ⊎_elim (λ a. inl (ack_stays c es x f a)) (λ more. inr (⊎_elim (λ o. inl (output_stays c es x f o)) (λ t. inr t) more)) covered

pub covered_by_longer : (c : Config) (es newer : List Entry) (f : Frame) → Covered c es f → Covered c (newer ++ es) f
covered_by_longer c es [] f covered = covered
covered_by_longer c es (x ∷ newer) f covered = covered_by_one_more c (newer ++ es) x f (covered_by_longer c es newer f covered)

-- marks are text bytes
pub ack_mark_text : (mark : ℕ) → IsAckMark mark → is_text_byte mark ≡ true
ack_mark_text mark is =
    let P : ℕ → Type 0 = λ n. is_text_byte n ≡ true in
    ⊎_elim (λ (blank : mark ≡ 32). subst P (sym blank) refl) (λ (again : mark ≡ 80). subst P (sym again) refl) is

pub output_mark_text : (mark : ℕ) → IsOutputMark mark → is_text_byte mark ≡ true
output_mark_text mark is =
    let P : ℕ → Type 0 = λ n. is_text_byte n ≡ true in
    ⊎_elim (λ (blank : mark ≡ 32). subst P (sym blank) refl)
    (λ more. ⊎_elim (λ (again : mark ≡ 80). subst P (sym again) refl) (λ (retrieved : mark ≡ 82). subst P (sym retrieved) refl) more) is

-- what an entry or an item gives are messages
pub entry_ack_sound : (c : Config) (es : List Entry) (h : Head) (body : List ℕ) (resent : Bool) (moment : ℕ) (v : Verdict) (mark : ℕ)
    → IsConfig c → Lawful c es → IsMoment (last_moment es) → Contains es (Posted h body resent moment v) → is_text_byte mark ≡ true
    → IsMessage (verdict_ack c.env h moment v mark)
entry_ack_sound c es h body resent moment v mark sound lawful in_calendar there text =
    let ranged = each_ranged c es (Posted h body resent moment v) sound lawful in_calendar there in
    verdict_ack_sound c.env h moment v mark (env_text c.env sound.env) text ranged.0.imad.sender ranged.2

item_sound : (c : Config) (es : List Entry) (e : List ℕ) (i : Item) (x : Entry) (mark : ℕ) → IsConfig c → Lawful c es
    → Contains es x → IsEndpoint e → is_text_byte mark ≡ true → IsMessage (output_message c.env e (record i { entry = x }) mark)
item_sound c es e i (Roll moment date) mark sound lawful there line text = end_sound c.env mark moment date i.at e (env_text c.env sound.env) text line
item_sound c es e i (Posted h body resent moment v) mark sound lawful there line text =
    let m = posted_sound c es h body resent moment v lawful there in
    delivery_sound c.env mark e i.at i.place h body resent moment v m.0 (env_text c.env sound.env) text line m.1 m.2

pub output_sound : (c : Config) (es : List Entry) (e : List ℕ) (i : Item) (mark : ℕ) → IsConfig c → Lawful c es → IsMoment (last_moment es)
    → Contains (outputs c es e) i → is_text_byte mark ≡ true → IsMessage (output_message c.env e i mark)
output_sound c es e i mark sound lawful in_calendar there text =
    item_sound c es e i i.entry mark sound lawful (item_entry c es e i there) (item_endpoint c es e i sound lawful in_calendar there) text

-- a message to an endpoint
record Carries (f : Frame) : Type 0 where
  message : Content
  is : IsMessage message
  spelled : f.payload ≡ message_spelling message
  to : IsEndpoint f.endpoint

carries : (c : Config) (es : List Entry) (f : Frame) → IsConfig c → Lawful c es → IsMoment (last_moment es) → Covered c es f → Carries f
carries c es f sound lawful in_calendar covered =
    ⊎_elim by_ack (λ more. ⊎_elim by_output by_turned more) covered
  where
    by_ack : IsAck c es f → Carries f
    by_ack a =
        let e = ack_entry c es a.place a.mark f a.sent in
        let there = is_member es a.place (Posted e.head e.body e.resent e.moment e.verdict) e.stands in
        let ranged = each_ranged c es (Posted e.head e.body e.resent e.moment e.verdict) sound lawful in_calendar there in
        record {
          message = verdict_ack c.env e.head e.moment e.verdict a.mark;
          is = entry_ack_sound c es e.head e.body e.resent e.moment e.verdict a.mark sound lawful in_calendar there (ack_mark_text a.mark a.marked);
          spelled = ap (λ (g : Frame). g.payload) (sym e.frame);
          to = subst (λ (g : Frame). IsEndpoint g.endpoint) e.frame ranged.0.imad.sender;
        }

    by_output : IsOutput c es f → Carries f
    by_output o = record {
      message = output_message c.env o.line o.item o.mark;
      is = output_sound c es o.line o.item o.mark sound lawful in_calendar o.there (output_mark_text o.mark o.marked);
      spelled = ap (λ (g : Frame). g.payload) (sym o.sent);
      to = subst (λ (g : Frame). IsEndpoint g.endpoint) o.sent (item_endpoint c es o.line o.item sound lawful in_calendar o.there);
    }

    by_turned : IsTurned c f → Carries f
    by_turned t = record {
      message = _;
      is = turned_ack_sound c.env t.why t.imad t.moment (env_text c.env sound.env) t.away t.imad_sound;
      spelled = ap (λ (g : Frame). g.payload) (sym t.sent);
      to = subst (λ (g : Frame). IsEndpoint g.endpoint) t.sent t.line_sound;
    }

-- each covered frame is one
pub covered_short : (c : Config) (es : List Entry) (f : Frame) → IsConfig c → Lawful c es → IsMoment (last_moment es) → Covered c es f
    → length f.payload ≤ longest_message
covered_short c es f sound lawful in_calendar covered =
    let m = carries c es f sound lawful in_calendar covered in
    message_short m.message f.payload (record { sound = m.is; spelled = m.spelled })

pub covered_fits : (c : Config) (es : List Entry) (f : Frame) → IsConfig c → Lawful c es → IsMoment (last_moment es) → Covered c es f → IsFrame f
covered_fits c es f sound lawful in_calendar covered =
    let short : length f.payload ≤ 4_234 = covered_short c es f sound lawful in_calendar covered in
    record { endpoint = (carries c es f sound lawful in_calendar covered).to; payload = omega (arith, short) }
