-- What `decoded` finds is what the bytes spell.
use Rattle.std.proofs.Common.{◌≡◌, ℕ, Bool, true, false, cond, ◌&&◌, List, Option, Some, None, option_and_then, refl, sym, ap, subst, ◌∙◌}
use Rattle.std.specs.Prelude.{◌≢◌}
use Rattle.std.proofs.lemmas.Bool.{and_parts, and_from}
use Rattle.faim_base.specs.declared.judgement.Refused.{Refused}
use Rattle.faim_base.specs.declared.judgement.Refused.TheVariants.{NoMemory}
use Rattle.faim_message.specs.declared.form.Form.{Form}
use Rattle.faim_message.specs.Spelling.{Content, is_complete, Spells}
use Rattle.faim_message.specs.Refusal.{Refuses}
use Rattle.faim_message.specs.Stages.{Stage, start, reads, is_whole, tags_of, breaks_of, content_of}
use Rattle.faim_message.specs.Decoded.{ended_at, decoded}
use Rattle.faim_message.proofs.Judge.{tags_arrive, message_told, same_some, ends-whole, never_refused}

-- the stage at which the message ends
record EndsAt (form : Form) (reading : Option Stage) (m : Content) : Type 0 where
  stage : Stage
  run : reading ≡ Some stage
  whole : is_whole stage ≡ true
  complete : is_complete form (tags_of stage) ≡ true
  gives : content_of form stage ≡ m

at_stage : (form : Form) (s : Stage) (m : Content) (b : Bool) → is_whole s && is_complete form (tags_of s) ≡ b
    → cond b (Some (content_of form s)) None ≡ Some m → EndsAt form (Some s) m
at_stage form s m false passes found = absurd cc
at_stage form s m true passes found =
    let p = and_parts (is_whole s) (is_complete form (tags_of s)) passes in
    record { stage = s; run = refl; whole = p.0; complete = p.1; gives = cc }

ends_at : (form : Form) (reading : Option Stage) (m : Content) → option_and_then (ended_at form) reading ≡ Some m → EndsAt form reading m
ends_at form None m found = absurd cc
ends_at form (Some s) m found = at_stage form s m (is_whole s && is_complete form (tags_of s)) refl found

-- what is decoded is spelled
pub decoded_spelled : (form : Form) (bytes : List ℕ) (m : Content) → decoded form bytes ≡ Some m → Spells m bytes × (m.form ≡ form)
decoded_spelled form bytes m found =
    let h = ends_at form (reads form start bytes) m found in
    let w = ends-whole form bytes (tags_of h.stage) (breaks_of h.stage) (record { stage = h.stage; run = h.run; whole = h.whole; tags_are = refl; breaks_are = refl }) in
    let P : Content → Type 0 = λ c. Spells c bytes × (c.form ≡ form) in
    subst P h.gives (record { sound = record { tags_sound = w.0; complete = h.complete }; spelled = w.1 }, refl)

-- what is spelled is decoded
pub spelled_decoded : (m : Content) (bytes : List ℕ) → Spells m bytes → decoded m.form bytes ≡ Some m
spelled_decoded m bytes h =
    let told = message_told m.form m.breaks m.tags bytes h.sound.tags_sound h.sound.complete h.spelled in
    let end = tags_arrive m.form m.tags m.breaks h.sound.tags_sound in
    let last : end.0 ≡ told.0 = same_some end.0 told.0 (reads m.form start bytes) (ap (reads m.form start) h.spelled ∙ end.1) told.1 in
    let whole : is_whole told.0 ≡ true = sym (ap is_whole last) ∙ end.2 in
    let complete : is_complete m.form (tags_of told.0) ≡ true = ap (λ (c : Content). is_complete m.form c.tags) told.2 ∙ h.sound.complete in
    ap (option_and_then (ended_at m.form)) told.1
    ∙ ap (λ (t : Bool). cond t (Some (content_of m.form told.0)) None) (and_from (is_whole told.0) (is_complete m.form (tags_of told.0)) whole complete)
    ∙ ap (λ (c : Content). Some c) told.2

pub spelled_as : (form : Form) (bytes : List ℕ) (m : Content) → Spells m bytes → m.form ≡ form → decoded form bytes ≡ Some m
spelled_as form bytes m h is = sym (ap (λ (f : Form). decoded f bytes) is) ∙ spelled_decoded m bytes h

none_or_some : (reading : Option Content) → ((m : Content) → reading ≡ Some m → ⊥) → reading ≡ None
none_or_some None never = refl
none_or_some (Some m) never = absurd (never m refl)

-- none is decoded exactly where none is spelled
pub none_decoded : (form : Form) (bytes : List ℕ) → ((m : Content) → Spells m bytes → m.form ≢ form) → decoded form bytes ≡ None
none_decoded form bytes never = none_or_some (decoded form bytes) (λ m found. let s = decoded_spelled form bytes m found in never m s.0 s.1)

pub none_spelled : (form : Form) (bytes : List ℕ) → decoded form bytes ≡ None → (m : Content) → Spells m bytes → m.form ≢ form
none_spelled form bytes none m h is = let found = spelled_as form bytes m h is in absurd cc

-- of what is refused, none is decoded
pub refused_undecoded : (form : Form) (bytes : List ℕ) (e : Refused) → Refuses form bytes e → e ≢ NoMemory → decoded form bytes ≡ None
refused_undecoded form bytes e refuses other =
    let P : Form → Type 0 = λ f. Refuses f bytes e in
    none_decoded form bytes (λ m h is. other (never_refused m bytes e h (subst P (sym is) refuses)))
