-- Nothing is covered but what a list gives.
use Rattle.std.proofs.Common.{◌≡◌, ◌⊎◌, ⊎_elim, inl, inr, refl, sym, ap, subst, ◌∙◌, ℕ, Bool, true, false, get_or, List, [], ◌∷◌, ◌++◌, Option, Some, None, is_some, Ok}
use Rattle.std.specs.Prelude.{IfSome, codes}
use Rattle.std.specs.List.{Contains}
use Rattle.faim_base.specs.declared.ids.Imad.{Imad}
use Rattle.faim_base.specs.declared.judgement.Head.{Head}
use Rattle.faim_base.specs.declared.judgement.Reject.{Reject}
use Rattle.faim_base.specs.declared.judgement.Verdict.{Verdict}
use Rattle.faim_base.specs.Digits.{padded}
use Rattle.faim_base.specs.Ids.{application, stamp_of, stamp_text}
use Rattle.faim_base.specs.Numbers.{IsMoment}
use Rattle.faim_base.specs.Ranges.{IsImad}
use Rattle.faim_base.proofs.IdLemmas.{read_imad-imad_text}
use Rattle.faim_tags.specs.Reading.{is_among}
use Rattle.faim_message.specs.declared.form.Form.TheVariants as forms
use Rattle.faim_message.specs.Decoded.{decoded}
use Rattle.faim_message.specs.Heads.{fixed_in}
use Rattle.faim_message.specs.Spelling.{Content, IsMessage, mark_in, marked_with, message_spelling, numbers}
use Rattle.faim_edits.specs.Texts.{is_turned_away}
use Rattle.host_ledger.specs.declared.config.Config.{Config}
use Rattle.host_ledger.specs.declared.entries.Entry.{Entry}
use Rattle.host_ledger.specs.declared.entries.Entry.TheVariants.{Posted, Roll}
use Rattle.host_ledger.specs.Soundness.{IsConfig}
use Rattle.link_frames.specs.declared.frame.FrameKind.{FrameKind}
use Rattle.link_frames.specs.declared.frame.FrameKind.TheVariants.{Ack, Output}
use Rattle.link_frames.specs.Frames.{Content as Frame}
use Rattle.faim_model.specs.Outputs.{Item, outputs}
use Rattle.faim_model.specs.Lawful.{Lawful, last_moment, moment_of}
use Rattle.faim_model.specs.Acks.{turned_ack, verdict_ack}
use Rattle.faim_model.specs.Deliveries.{output_message}
use Rattle.faim_model.specs.Frames.{Covered, IsAck, IsAckMark, IsOutput, IsOutputMark, IsTurned, framed, has_identifier}
use Rattle.faim_model.specs.Readings.{Acknowledges, imad_in, verdict_in}
use Rattle.faim_model.proofs.Codes.{away_cases}
use Rattle.faim_model.proofs.Covering.{ack_entry, ack_mark_text, entry_ack_sound, output_mark_text, output_sound}
use Rattle.faim_model.proofs.Judgements.{posted_fresh}
use Rattle.faim_model.proofs.Kept.{is_member}
use Rattle.faim_model.proofs.Members.{first_or_later, none_in}
use Rattle.faim_model.proofs.Places.{imad_found}
use Rattle.faim_model.proofs.Ranged.{each_ranged, entry_moment, item_entry}
use Rattle.faim_model.proofs.Telling.{tells_imad, tells_none, tells_verdict}
use Rattle.faim_model.proofs.Written.{env_text, read_again, turned_ack_sound}

-- what a frame's payload reads as
reads_as : (kind : FrameKind) (e : List ℕ) (f : Frame) (w m : Content) → IsMessage w → framed kind e w ≡ f → decoded w.form f.payload ≡ Some m → m ≡ w
reads_as kind e f w m sound sent read =
    let both : Some m ≡ Some w = sym (ap (λ (g : Frame). decoded w.form g.payload) sent ∙ read) ∙ read_again w sound in cc

-- a frame has one kind
kind_is : (kind : FrameKind) (e : List ℕ) (f : Frame) (w : Content) → framed kind e w ≡ f → f.kind ≡ kind
kind_is kind e f w sent = ap (λ (g : Frame). g.kind) (sym sent)

pub either_kind : (c : Config) (es : List Entry) (f : Frame) → Covered c es f → (f.kind ≡ Ack) ⊎ (f.kind ≡ Output)
either_kind c es f covered =
    ⊎_elim
    (λ (a : IsAck c es f). let e = ack_entry c es a.place a.mark f a.sent in inl (kind_is Ack e.head.imad.source f (verdict_ack c.env e.head e.moment e.verdict a.mark) e.frame))
    (λ more. ⊎_elim (λ (o : IsOutput c es f). inr (kind_is Output o.line f (output_message c.env o.line o.item o.mark) o.sent))
    (λ (t : IsTurned c f). inl (kind_is Ack t.line f (turned_ack c.env t.why t.imad t.moment) t.sent)) more) covered

module _ (c : Config) (es : List Entry) (sound : IsConfig c) (lawful : Lawful c es) (in_calendar : IsMoment (last_moment es)) where
  -- the acknowledgement of an entry, by what it is read as
  record EntryRead (f : Frame) (m : Content) : Type 0 where
    verdict : Verdict
    tells : verdict_in m ≡ Some verdict
    entry : Acknowledges c es verdict f m

  entry_read : (f : Frame) (m : Content) → IsAck c es f → decoded forms.Ack f.payload ≡ Some m → EntryRead f m
  entry_read f m a read =
      let e = ack_entry c es a.place a.mark f a.sent in
      let there = is_member es a.place (Posted e.head e.body e.resent e.moment e.verdict) e.stands in
      let ranged = each_ranged c es (Posted e.head e.body e.resent e.moment e.verdict) sound lawful in_calendar there in
      let w = verdict_ack c.env e.head e.moment e.verdict a.mark in
      let is : IsMessage w = entry_ack_sound c es e.head e.body e.resent e.moment e.verdict a.mark sound lawful in_calendar there (ack_mark_text a.mark a.marked) in
      let same : m ≡ w = reads_as Ack e.head.imad.source f w m is e.frame read in
      record {
        verdict = e.verdict;
        tells = ap verdict_in same ∙ tells_verdict c.env e.head e.moment e.verdict a.mark ranged.0.imad ranged.1 ranged.2;
        entry = record {
          head = e.head;
          body = e.body;
          resent = e.resent;
          moment = e.moment;
          there = there;
          mark = a.mark;
          marked = a.marked;
          message = same;
          to_source = ap (λ (g : Frame). g.endpoint) (sym e.frame);
        };
      }

  turned_read : (f : Frame) (m : Content) → IsTurned c f → decoded forms.Ack f.payload ≡ Some m → verdict_in m ≡ None
  turned_read f m t read =
      let w = turned_ack c.env t.why t.imad t.moment in
      let is : IsMessage w = turned_ack_sound c.env t.why t.imad t.moment (env_text c.env sound.env) t.away t.imad_sound in
      ap verdict_in (reads_as Ack t.line f w m is t.sent read) ∙ tells_none c.env t.why t.imad t.moment t.away

  -- an output is no acknowledgement
  no_ack : (f : Frame) → IsOutput c es f → f.kind ≡ Ack → ⊥
  no_ack f o is = let both : Output ≡ Ack = sym (kind_is Output o.line f (output_message c.env o.line o.item o.mark) o.sent) ∙ is in absurd cc

  -- an acknowledgement is no output
  entry_is_no_output : (f : Frame) → IsAck c es f → f.kind ≡ Output → ⊥
  entry_is_no_output f a is =
      let e = ack_entry c es a.place a.mark f a.sent in
      let both : Ack ≡ Output = sym (kind_is Ack e.head.imad.source f (verdict_ack c.env e.head e.moment e.verdict a.mark) e.frame) ∙ is in absurd cc

  turned_is_no_output : (f : Frame) → IsTurned c f → f.kind ≡ Output → ⊥
  turned_is_no_output f t is = let both : Ack ≡ Output = sym (kind_is Ack t.line f (turned_ack c.env t.why t.imad t.moment) t.sent) ∙ is in absurd cc

  -- a payload is read as the message that it spells
  reads_back : (kind : FrameKind) (e : List ℕ) (f : Frame) (w : Content) → IsMessage w → framed kind e w ≡ f → decoded w.form f.payload ≡ Some w
  reads_back kind e f w is sent = ap (λ (g : Frame). decoded w.form g.payload) (sym sent) ∙ read_again w is

  pub acks_read : (f : Frame) → Covered c es f → f.kind ≡ Ack → (m : Content) × (decoded forms.Ack f.payload ≡ Some m)
  acks_read f covered is =
      ⊎_elim by_entry (λ more. ⊎_elim (λ (o : IsOutput c es f). absurd (no_ack f o is)) by_turned more) covered
    where
      by_entry : IsAck c es f → (m : Content) × (decoded forms.Ack f.payload ≡ Some m)
      by_entry a =
          let e = ack_entry c es a.place a.mark f a.sent in
          let there = is_member es a.place (Posted e.head e.body e.resent e.moment e.verdict) e.stands in
          let w = verdict_ack c.env e.head e.moment e.verdict a.mark in
          let is : IsMessage w = entry_ack_sound c es e.head e.body e.resent e.moment e.verdict a.mark sound lawful in_calendar there (ack_mark_text a.mark a.marked) in
          (w, reads_back Ack e.head.imad.source f w is e.frame)

      by_turned : IsTurned c f → (m : Content) × (decoded forms.Ack f.payload ≡ Some m)
      by_turned t =
          let w = turned_ack c.env t.why t.imad t.moment in
          let is : IsMessage w = turned_ack_sound c.env t.why t.imad t.moment (env_text c.env sound.env) t.away t.imad_sound in
          (w, reads_back Ack t.line f w is t.sent)

  pub outputs_read : (f : Frame) → Covered c es f → f.kind ≡ Output → (m : Content) × (decoded forms.Output f.payload ≡ Some m)
  outputs_read f covered is =
      ⊎_elim (λ (a : IsAck c es f). absurd (entry_is_no_output f a is))
      (λ more. ⊎_elim by_item (λ (t : IsTurned c f). absurd (turned_is_no_output f t is)) more) covered
    where
      by_item : IsOutput c es f → (m : Content) × (decoded forms.Output f.payload ≡ Some m)
      by_item o =
          let w = output_message c.env o.line o.item o.mark in
          let is : IsMessage w = output_sound c es o.line o.item o.mark sound lawful in_calendar o.there (output_mark_text o.mark o.marked) in
          (w, reads_back Output o.line f w is o.sent)

  -- a verdict that is told is kept
  pub told_is_kept : (f : Frame) (m : Content) (v : Verdict) → Covered c es f → f.kind ≡ Ack → decoded forms.Ack f.payload ≡ Some m → verdict_in m ≡ Some v
      → Acknowledges c es v f m
  told_is_kept f m v covered is read tells =
      ⊎_elim
      (λ (a : IsAck c es f). let r = entry_read f m a read in let same : r.verdict ≡ v = cc in subst (λ (u : Verdict). Acknowledges c es u f m) same r.entry)
      (λ more. ⊎_elim (λ (o : IsOutput c es f). absurd (no_ack f o is))
      (λ (t : IsTurned c f). let none : verdict_in m ≡ None = turned_read f m t read in absurd cc) more) covered

  -- where none is told a submission is turned away
  pub untold_is_turned : (f : Frame) (m : Content) → Covered c es f → f.kind ≡ Ack → decoded forms.Ack f.payload ≡ Some m → verdict_in m ≡ None → IsTurned c f
  untold_is_turned f m covered is read tells =
      ⊎_elim (λ (a : IsAck c es f). let r = entry_read f m a read in let some : verdict_in m ≡ Some r.verdict = r.tells in absurd cc)
      (λ more. ⊎_elim (λ (o : IsOutput c es f). absurd (no_ack f o is)) (λ (t : IsTurned c f). t) more) covered

  -- an output is one of the list's
  pub output_is_given : (f : Frame) (m : Content) → Covered c es f → f.kind ≡ Output → decoded forms.Output f.payload ≡ Some m
      → (i : Item) × Contains (outputs c es f.endpoint) i × IsOutputMark (mark_in forms.Output m.tags)
      × (m ≡ output_message c.env f.endpoint i (mark_in forms.Output m.tags))
  output_is_given f m covered is read =
      ⊎_elim (λ (a : IsAck c es f). absurd (entry_is_no_output f a is))
      (λ more. ⊎_elim given (λ (t : IsTurned c f). absurd (turned_is_no_output f t is)) more) covered
    where
      given : IsOutput c es f → (i : Item) × Contains (outputs c es f.endpoint) i × IsOutputMark (mark_in forms.Output m.tags)
          × (m ≡ output_message c.env f.endpoint i (mark_in forms.Output m.tags))
      given o =
          let w = output_message c.env o.line o.item o.mark in
          let is : IsMessage w = output_sound c es o.line o.item o.mark sound lawful in_calendar o.there (output_mark_text o.mark o.marked) in
          let same : m ≡ w = reads_as Output o.line f w m is o.sent read in
          let line : o.line ≡ f.endpoint = ap (λ (g : Frame). g.endpoint) o.sent in
          let mark : mark_in forms.Output m.tags ≡ o.mark = ap (λ (x : Content). mark_in forms.Output x.tags) same in (
            o.item,
            subst (λ (e : List ℕ). Contains (outputs c es e) o.item) line o.there,
            subst IsOutputMark (sym mark) o.marked,
            same ∙ ap (λ (e : List ℕ). output_message c.env e o.item o.mark) line ∙ ap (output_message c.env f.endpoint o.item) (sym mark),
          )

-- each is stamped
abbrev Stamped : Content → Type 0
Stamped m = (moment : ℕ) × IsMoment moment × (fixed_in m.tags 1110 ≡ stamp_text (stamp_of moment) ++ application)

module _ (c : Config) (es : List Entry) (sound : IsConfig c) (lawful : Lawful c es) (in_calendar : IsMoment (last_moment es)) (f : Frame) (m : Content) where
  pub acks_stamped : Covered c es f → f.kind ≡ Ack → decoded forms.Ack f.payload ≡ Some m → Stamped m
  acks_stamped covered is read =
      ⊎_elim by_entry (λ more. ⊎_elim (λ (o : IsOutput c es f). absurd (no_ack c es sound lawful in_calendar f o is)) by_turned more) covered
    where
      by_entry : IsAck c es f → Stamped m
      by_entry a =
          let e = (entry_read c es sound lawful in_calendar f m a read).entry in
          let ranged = each_ranged c es (Posted e.head e.body e.resent e.moment _) sound lawful in_calendar e.there in
          subst Stamped (sym e.message) (e.moment, ranged.1, refl)

      by_turned : IsTurned c f → Stamped m
      by_turned t =
          let w = turned_ack c.env t.why t.imad t.moment in
          let is : IsMessage w = turned_ack_sound c.env t.why t.imad t.moment (env_text c.env sound.env) t.away t.imad_sound in
          subst Stamped (sym (reads_as Ack t.line f w m is t.sent read)) (t.moment, t.moment_sound, refl)

  pub outputs_stamped : Covered c es f → f.kind ≡ Output → decoded forms.Output f.payload ≡ Some m → Stamped m
  outputs_stamped covered is read =
      let (i, there, marked, message) = output_is_given c es sound lawful in_calendar f m covered is read in
      let ranged = each_ranged c es i.entry sound lawful in_calendar (item_entry c es f.endpoint i there) in
      subst Stamped (sym message) (moment_of i.entry, entry_moment i.entry ranged, refl)

  -- what turns a submission away has one of four refusals, two of them with an identifier
  abbrev Four : Content → Type 0
  Four w =
      (((fixed_in w.tags 1130 ≡ codes "E001") ⊎ (fixed_in w.tags 1130 ≡ codes "E002")) × (is_among (numbers w.tags) 1520 ≡ false))
      ⊎ (((fixed_in w.tags 1130 ≡ codes "H102") ⊎ (fixed_in w.tags 1130 ≡ codes "X201")) × ((imad : Imad) × (imad_in w ≡ Ok imad)))

  four_of : (why : Reject) (imad : Option Imad) (moment : ℕ) → is_turned_away why ≡ true → is_some imad ≡ has_identifier why → IfSome imad IsImad
      → Four (turned_ack c.env why imad moment)
  unfolding padded
  four_of why None moment away identified imad_sound = away_cases (λ r. false ≡ has_identifier r → Four (turned_ack c.env r None moment)) why
      (λ none. inl (inl refl, refl)) (λ none. inl (inr refl, refl))
      (λ none. absurd (let wrong : false ≡ true = none in cc)) (λ none. absurd (let wrong : false ≡ true = none in cc)) away identified
  four_of why (Some imad) moment away identified imad_sound =
      let reads : imad_in (turned_ack c.env why (Some imad) moment) ≡ Ok imad = read_imad-imad_text imad imad_sound in
      away_cases (λ r. true ≡ has_identifier r → Four (turned_ack c.env r (Some imad) moment)) why
      (λ some. absurd (let wrong : true ≡ false = some in cc)) (λ some. absurd (let wrong : true ≡ false = some in cc))
      (λ some. inr (inl refl, (imad, reads))) (λ some. inr (inr refl, (imad, reads))) away identified

  pub turned_by_four : Covered c es f → f.kind ≡ Ack → decoded forms.Ack f.payload ≡ Some m → verdict_in m ≡ None → Four m
  turned_by_four covered is read tells =
      let t = untold_is_turned c es sound lawful in_calendar f m covered is read tells in
      let w = turned_ack c.env t.why t.imad t.moment in
      let is_message : IsMessage w = turned_ack_sound c.env t.why t.imad t.moment (env_text c.env sound.env) t.away t.imad_sound in
      subst Four (sym (reads_as Ack t.line f w m is_message t.sent read)) (four_of t.why t.imad t.moment t.away t.identified t.imad_sound)

-- the mark of each covered frame is byte 9 of its payload
mark_shown : (kind : FrameKind) (e : List ℕ) (f : Frame) (w : Content) (mark : ℕ) → framed kind e w ≡ f → get_or (message_spelling w) 9 0 ≡ mark → get_or f.payload 9 0 ≡ mark
mark_shown kind e f w mark sent shown = ap (λ (g : Frame). get_or g.payload 9 0) (sym sent) ∙ shown

pub acks_marked : (c : Config) (es : List Entry) (f : Frame) → Covered c es f → f.kind ≡ Ack → IsAckMark (get_or f.payload 9 0)
acks_marked c es f covered is =
    ⊎_elim
    (λ (a : IsAck c es f). let e = ack_entry c es a.place a.mark f a.sent in
    subst IsAckMark (sym (mark_shown Ack e.head.imad.source f (verdict_ack c.env e.head e.moment e.verdict a.mark) a.mark e.frame refl)) a.marked)
    (λ more. ⊎_elim
    (λ (o : IsOutput c es f). let both : Output ≡ Ack = sym (kind_is Output o.line f (output_message c.env o.line o.item o.mark) o.sent) ∙ is in absurd cc)
    (λ (t : IsTurned c f). inl (mark_shown Ack t.line f (turned_ack c.env t.why t.imad t.moment) 32 t.sent refl)) more) covered

output_shows : (env : ℕ) (e : List ℕ) (i : Item) (mark : ℕ) → get_or (message_spelling (output_message env e i mark)) 9 0 ≡ mark
output_shows env e i mark = refl

pub outputs_marked : (c : Config) (es : List Entry) (f : Frame) → Covered c es f → f.kind ≡ Output → IsOutputMark (get_or f.payload 9 0)
outputs_marked c es f covered is =
    ⊎_elim
    (λ (a : IsAck c es f). let e = ack_entry c es a.place a.mark f a.sent in
    let both : Ack ≡ Output = sym (kind_is Ack e.head.imad.source f (verdict_ack c.env e.head e.moment e.verdict a.mark) e.frame) ∙ is in absurd cc)
    (λ more. ⊎_elim
    (λ (o : IsOutput c es f). let w = output_message c.env o.line o.item o.mark in
    subst IsOutputMark (sym (mark_shown Output o.line f w o.mark o.sent (output_shows c.env o.line o.item o.mark))) o.marked)
    (λ (t : IsTurned c f). let both : Ack ≡ Output = sym (kind_is Ack t.line f (turned_ack c.env t.why t.imad t.moment) t.sent) ∙ is in absurd cc) more) covered

-- one identifier, one entry
not_again : (c : Config) (older : List Entry) (h : Head) (body : List ℕ) (resent : Bool) (moment : ℕ) (v : Verdict)
    (g : Head) (other : List ℕ) (again : Bool) (at : ℕ) (u : Verdict)
    → Lawful c (Posted h body resent moment v ∷ older) → Contains older (Posted g other again at u) → g.imad ≡ h.imad → ⊥
not_again c older h body resent moment v g other again at u lawful there same =
    let found = imad_found c g other again at u h.imad older there same in
    let both : None ≡ Some found.0 = sym (posted_fresh c older h body resent moment v lawful.0) ∙ found.1 in absurd cc

pub one_entry : (c : Config) (es : List Entry) (h : Head) (body : List ℕ) (resent : Bool) (moment : ℕ) (v : Verdict)
    (g : Head) (other : List ℕ) (again : Bool) (at : ℕ) (u : Verdict)
    → Lawful c es → Contains es (Posted h body resent moment v) → Contains es (Posted g other again at u) → h.imad ≡ g.imad
    → Posted h body resent moment v ≡ Posted g other again at u
one_entry c [] h body resent moment v g other again at u lawful there too same = absurd (none_in (Posted h body resent moment v) there)
one_entry c (x ∷ older) h body resent moment v g other again at u lawful there too same =
    ⊎_elim
    (λ (first : Posted h body resent moment v ≡ x). ⊎_elim (λ (second : Posted g other again at u ≡ x). first ∙ sym second)
    (λ (later : Contains older (Posted g other again at u)). absurd (not_again c older h body resent moment v g other again at u
    (subst (λ (y : Entry). Lawful c (y ∷ older)) (sym first) lawful) later (sym same)))
    (first_or_later x (Posted g other again at u) older too))
    (λ (older_has : Contains older (Posted h body resent moment v)). ⊎_elim
    (λ (second : Posted g other again at u ≡ x). absurd (not_again c older g other again at u h body resent moment v
    (subst (λ (y : Entry). Lawful c (y ∷ older)) (sym second) lawful) older_has same))
    (λ later. one_entry c older h body resent moment v g other again at u lawful.1 older_has later same)
    (first_or_later x (Posted g other again at u) older too))
    (first_or_later x (Posted h body resent moment v) older there)

-- the acknowledgement of an entry with a blank
abbrev blank_ack : ℕ → Entry → Option Content
blank_ack env (Posted h body resent moment v) = Some (verdict_ack env h moment v 32)
blank_ack env (Roll moment date) = None

-- of one identifier all acknowledgements that tell a verdict are one but for the mark
pub acks_differ_in_marks : (c : Config) (es : List Entry) (f g : Frame) (m w : Content) (v u : Verdict) → IsConfig c → Lawful c es → IsMoment (last_moment es)
    → Covered c es f → Covered c es g → f.kind ≡ Ack → g.kind ≡ Ack → decoded forms.Ack f.payload ≡ Some m → decoded forms.Ack g.payload ≡ Some w
    → verdict_in m ≡ Some v → verdict_in w ≡ Some u → imad_in m ≡ imad_in w → (f.endpoint ≡ g.endpoint) × (marked_with 32 m ≡ marked_with 32 w)
acks_differ_in_marks c es f g m w v u sound lawful in_calendar covered also is also_is read also_read tells also_tells same =
    let a = told_is_kept c es sound lawful in_calendar f m v covered is read tells in
    let b = told_is_kept c es sound lawful in_calendar g w u also also_is also_read also_tells in
    let x = Posted a.head a.body a.resent a.moment v in
    let y = Posted b.head b.body b.resent b.moment u in
    let ranged = each_ranged c es x sound lawful in_calendar a.there in
    let too = each_ranged c es y sound lawful in_calendar b.there in
    let first : imad_in m ≡ Ok a.head.imad = ap imad_in a.message ∙ tells_imad c.env a.head a.moment v a.mark ranged.0.imad in
    let second : imad_in w ≡ Ok b.head.imad = ap imad_in b.message ∙ tells_imad c.env b.head b.moment u b.mark too.0.imad in
    let imads : a.head.imad ≡ b.head.imad = cc in
    let entries : x ≡ y = one_entry c es a.head a.body a.resent a.moment v b.head b.body b.resent b.moment u lawful a.there b.there imads in
    let blanks : Some (verdict_ack c.env a.head a.moment v 32) ≡ Some (verdict_ack c.env b.head b.moment u 32) = ap (blank_ack c.env) entries in
    let blank : verdict_ack c.env a.head a.moment v 32 ≡ verdict_ack c.env b.head b.moment u 32 = cc in
    (a.to_source ∙ ap (λ (i : Imad). i.source) imads ∙ sym b.to_source, ap (marked_with 32) a.message ∙ blank ∙ ap (marked_with 32) (sym b.message))
