-- What a host writes are messages of their forms.
use Rattle.std.proofs.Common.{◌≡◌, ⊎_elim, refl, sym, ap, subst, ◌∙◌, ℕ, Bool, true, false, cond, List, [], ◌∷◌, Option, Some, None}
use Rattle.std.specs.Prelude.{IfSome}
use Rattle.std.specs.List.{list_all}
use Rattle.std.specs.Option.{unwrap_or}
use Rattle.std.proofs.lemmas.Bool.{and_parts, and_from, or_left, or_right}
use Rattle.faim_base.specs.declared.ids.Imad.{Imad}
use Rattle.faim_base.specs.declared.ids.OutPos.{OutPos}
use Rattle.faim_base.specs.declared.judgement.Head.{Head}
use Rattle.faim_base.specs.declared.judgement.Reject.{Reject}
use Rattle.faim_base.specs.declared.judgement.Verdict.{Verdict}
use Rattle.faim_base.specs.declared.judgement.Verdict.TheVariants.{Taken, Refused}
use Rattle.faim_base.specs.Ranges.{IsEndpoint, IsImad}
use Rattle.faim_base.specs.Refusals.{is_recorded}
use Rattle.faim_base.specs.Text.{is_text_byte}
use Rattle.faim_tags.specs.Spelling.{Tag}
use Rattle.faim_tags.specs.Reading.{is_among}
use Rattle.faim_message.specs.declared.form.Form.{Form}
use Rattle.faim_message.specs.declared.form.Form.TheVariants.{Input, Output}
use Rattle.faim_message.specs.Forms.{permitted}
use Rattle.faim_message.specs.Decoded.{decoded}
use Rattle.faim_message.specs.Spelling.{AreTags, Content, IsMessage, Spells, marked_with, message_spelling, numbers}
use Rattle.faim_message.proofs.Decodings.{spelled_as}
use Rattle.faim_message.proofs.Duplication.{IsMessage-marked}
use Rattle.faim_message.proofs.Numbers.{all_at}
use Rattle.faim_edits.specs.Texts.{is_turned_away}
use Rattle.host_ledger.specs.declared.entries.Entry.{Entry}
use Rattle.host_ledger.specs.declared.entries.Entry.TheVariants.{Posted, Roll}
use Rattle.host_ledger.specs.Ranges.{IsVerdict}
use Rattle.host_ledger.specs.Soundness.{IsEnv}
use Rattle.host_ledger.specs.Sums.{moves_money}
use Rattle.faim_model.specs.ServiceTags.{moment_tag, output_tag, status_tag}
use Rattle.faim_model.specs.Acks.{ack_status, turned_ack, verdict_ack}
use Rattle.faim_model.specs.Deliveries.{empty_message, output_message, output_status, posted_message}
use Rattle.faim_model.proofs.Fills.{imad_is_tag, moment_is_tag, next_is_tag, output_is_tag, refusal_is_tag, status_is_tag}

pub env_text : (env : ℕ) → IsEnv env → is_text_byte env ≡ true
env_text env is =
    let P : ℕ → Type 0 = λ n. is_text_byte n ≡ true in
    ⊎_elim (λ (test : env ≡ 84). subst P (sym test) refl) (λ (production : env ≡ 80). subst P (sym production) refl) is

one_of_two : (b : Bool) (m n : ℕ) → is_text_byte m ≡ true → is_text_byte n ≡ true → is_text_byte (cond b m n) ≡ true
one_of_two true m n e f = e
one_of_two false m n e f = f

ack_status_text : (h : Head) (v : Verdict) → is_text_byte (ack_status h v) ≡ true
ack_status_text h (Taken dest seq) = one_of_two (moves_money h) 50 55 refl refl
ack_status_text h (Refused why) = refl

output_status_text : (x : Entry) → is_text_byte (output_status x) ≡ true
output_status_text (Posted h body resent moment v) = one_of_two (moves_money h) 78 83 refl refl
output_status_text (Roll moment date) = refl

-- acknowledgements
pub verdict_ack_sound : (env : ℕ) (h : Head) (moment : ℕ) (v : Verdict) (mark : ℕ) → is_text_byte env ≡ true → is_text_byte mark ≡ true
    → IsEndpoint h.imad.source → IsVerdict v → IsMessage (verdict_ack env h moment v mark)
unfolding permitted
verdict_ack_sound env h moment (Taken dest seq) mark e m source fits = record {
  tags_sound = record {
    each = (
      status_is_tag env mark (ack_status h (Taken dest seq)) e m (ack_status_text h (Taken dest seq)),
      (moment_is_tag moment, (output_is_tag (record { date = h.imad.date; seq = seq }) dest moment fits.0, (imad_is_tag h.imad source, tt))),
    );
    apart = refl;
    allowed = refl;
    led = refl;
  };
  complete = refl;
}
verdict_ack_sound env h moment (Refused why) mark e m source fits = record {
  tags_sound = record {
    each = (
      status_is_tag env mark 51 e m refl,
      (moment_is_tag moment, (refusal_is_tag why (or_left (is_recorded why) (is_turned_away why) fits), (imad_is_tag h.imad source, tt))),
    );
    apart = refl;
    allowed = refl;
    led = refl;
  };
  complete = refl;
}

pub turned_ack_sound : (env : ℕ) (why : Reject) (imad : Option Imad) (moment : ℕ) → is_text_byte env ≡ true → is_turned_away why ≡ true
    → IfSome imad IsImad → IsMessage (turned_ack env why imad moment)
unfolding permitted
turned_ack_sound env why None moment e away sound = record {
  tags_sound = record {
    each = (status_is_tag env 32 51 e refl refl, (moment_is_tag moment, (refusal_is_tag why (or_right (is_recorded why) (is_turned_away why) away), tt)));
    apart = refl;
    allowed = refl;
    led = refl;
  };
  complete = refl;
}
turned_ack_sound env why (Some imad) moment e away sound = record {
  tags_sound = record {
    each = (
      status_is_tag env 32 51 e refl refl,
      (moment_is_tag moment, (refusal_is_tag why (or_right (is_recorded why) (is_turned_away why) away), (imad_is_tag imad sound.sender, tt))),
    );
    apart = refl;
    allowed = refl;
    led = refl;
  };
  complete = refl;
}

-- outputs: what a submission may have an output may have, but none of a host's own tags
may_stand : (n : ℕ) → is_among (permitted Input) n ≡ true → is_among (permitted Output) n ≡ true
unfolding permitted
may_stand n there = all_at (is_among (permitted Output)) (permitted Input) n refl there

all_stand : (ns : List ℕ) → list_all (is_among (permitted Input)) ns ≡ true → list_all (is_among (permitted Output)) ns ≡ true
all_stand [] all = refl
all_stand (n ∷ ns) all =
    let both = and_parts (is_among (permitted Input) n) (list_all (is_among (permitted Input)) ns) all in
    and_from (is_among (permitted Output) n) (list_all (is_among (permitted Output)) ns) (may_stand n both.0) (all_stand ns both.1)

not_there : (ns : List ℕ) (n : ℕ) → list_all (is_among (permitted Input)) ns ≡ true → is_among (permitted Input) n ≡ false → is_among ns n ≡ false
not_there ns n all never = absent (is_among ns n) (λ there. all_at (is_among (permitted Input)) ns n all there)
  where
    absent : (b : Bool) → (b ≡ true → is_among (permitted Input) n ≡ true) → b ≡ false
    absent true there = absurd (let wrong : true ≡ false = sym (there refl) ∙ never in cc)
    absent false there = refl

-- a host's three tags in front
abbrev in_front : ℕ → ℕ → ℕ → ℕ → OutPos → List ℕ → List Tag → List Tag
in_front env mark status moment at e tags = status_tag env mark status ∷ moment_tag moment ∷ output_tag at e moment ∷ tags

front_sound : (env mark status moment : ℕ) (at : OutPos) (e : List ℕ) (m : Content) → is_text_byte env ≡ true → is_text_byte mark ≡ true
    → is_text_byte status ≡ true → IsEndpoint e → IsMessage m → m.form ≡ Input
    → IsMessage (record { form = Output; breaks = m.breaks; tags = in_front env mark status moment at e m.tags })
unfolding permitted
front_sound env mark status moment at e m env_is mark_is status_is sound is form =
    let own : AreTags Input m.tags = subst (λ (f : Form). AreTags f m.tags) form is.tags_sound in
    let ns = numbers m.tags in
    let no_status : is_among ns 1100 ≡ false = not_there ns 1100 own.allowed refl in
    let no_moment : is_among ns 1110 ≡ false = not_there ns 1110 own.allowed refl in
    let no_output : is_among ns 1120 ≡ false = not_there ns 1120 own.allowed refl in
    record {
      tags_sound = record {
        each = (status_is_tag env mark status env_is mark_is status_is, (moment_is_tag moment, (output_is_tag at e moment sound, own.each)));
        apart = rw (no_status, no_moment, no_output, own.apart) refl;
        allowed = all_stand ns own.allowed;
        led = refl;
      };
      complete = refl;
    }

pub end_sound : (env mark moment date : ℕ) (at : OutPos) (e : List ℕ) → is_text_byte env ≡ true → is_text_byte mark ≡ true → IsEndpoint e
    → IsMessage (output_message env e (record { at = at; place = 0; entry = Roll moment date }) mark)
unfolding permitted
end_sound env mark moment date at e env_is mark_is sound = record {
  tags_sound = record {
    each = (status_is_tag env mark 69 env_is mark_is refl, (moment_is_tag moment, (output_is_tag at e moment sound, (next_is_tag date, tt))));
    apart = refl;
    allowed = refl;
    led = refl;
  };
  complete = refl;
}

pub mark_of_resent : (resent : Bool) → is_text_byte (cond resent 80 32) ≡ true
mark_of_resent resent = one_of_two resent 80 32 refl refl

-- the body of a submission gives it back, with another mark
pub posted_is : (body : List ℕ) (resent : Bool) (m : Content) → decoded Input body ≡ Some m → posted_message body resent ≡ marked_with (cond resent 80 32) m
posted_is body resent m read = ap (λ (o : Option Content). marked_with (cond resent 80 32) (unwrap_or o empty_message)) read

pub delivery_sound : (env mark : ℕ) (e : List ℕ) (at : OutPos) (place : ℕ) (h : Head) (body : List ℕ) (resent : Bool) (moment : ℕ) (v : Verdict) (m : Content)
    → is_text_byte env ≡ true → is_text_byte mark ≡ true → IsEndpoint e → Spells m body → m.form ≡ Input
    → IsMessage (output_message env e (record { at = at; place = place; entry = Posted h body resent moment v }) mark)
delivery_sound env mark e at place h body resent moment v m env_is mark_is sound spells form =
    let w = marked_with (cond resent 80 32) m in
    let same : posted_message body resent ≡ w = posted_is body resent m (spelled_as Input body m spells form) in
    let status = output_status (Posted h body resent moment v) in
    let P : Content → Type 0 = λ s. IsMessage (record { form = Output; breaks = s.breaks; tags = in_front env mark status moment at e s.tags }) in
    subst P (sym same) (front_sound env mark status moment at e w env_is mark_is (output_status_text (Posted h body resent moment v)) sound
    (IsMessage-marked m (cond resent 80 32) spells.sound (mark_of_resent resent)) form)

-- a message that is spelled is read again
pub read_again : (m : Content) → IsMessage m → decoded m.form (message_spelling m) ≡ Some m
read_again m sound = spelled_as m.form (message_spelling m) m (record { sound = sound; spelled = refl }) refl
