-- The text that a draft becomes spells a submission with its IMAD and a blank as its mark.
use Rattle.std.proofs.Common.{◌≡◌, refl, sym, ap, ◌∙◌, subst, ℕ, ◌<◌, Bool, true, false, List, length, Option, Some, arith}
use Rattle.std.specs.List.{list_all}
use Rattle.faim_base.specs.declared.ids.Imad.{Imad}
use Rattle.faim_base.specs.Ids.{imad_text, read_imad}
use Rattle.faim_base.specs.Ranges.{IsImad}
use Rattle.faim_base.proofs.IdLemmas.{read_imad-imad_text}
use Rattle.faim_tags.specs.Reading.{is_among}
use Rattle.faim_tags.specs.Spelling.{Tag}
use Rattle.faim_message.specs.declared.form.Form.{Form}
use Rattle.faim_message.specs.declared.form.Form.TheVariants.{Draft, Input}
use Rattle.faim_message.specs.Decoded.{decoded}
use Rattle.faim_message.specs.Forms.{permitted}
use Rattle.faim_message.specs.Heads.{fixed_of}
use Rattle.faim_message.specs.Numbering.{imad_tag, numbered}
use Rattle.faim_message.specs.Spelling.{Content, Spells, mark_byte, marked_with, message_spelling, numbers}
use Rattle.faim_message.proofs.Decodings.{decoded_spelled, spelled_as}
use Rattle.faim_message.proofs.Lengths.{message_short}
use Rattle.faim_message.proofs.MarkBytes.{mark_within}
use Rattle.faim_message.proofs.Numbers.{all_at}
use Rattle.faim_message.proofs.Submissions.{new_mark}
use Rattle.host_ledger.specs.Ranges.{IsBody}
use Rattle.bank_turns.specs.Drafting.{draft_text}
use Rattle.bank_turns.specs.KeptTexts.{KeepsDraft}
use Rattle.bank_turns.proofs.Looked.{others_found, put_found}
use Rattle.bank_turns.proofs.Sends.{numbered_sound, numbered_spells}

-- a text that spells a message isn't empty, and isn't longer than one
pub spelling_fits : (m : Content) (text : List ℕ) → Spells m text → IsBody text
spelling_fits m text spells =
    let within : mark_byte m.form < length (message_spelling m) = mark_within m spells.sound in
    let long : length text ≡ length (message_spelling m) = ap length spells.spelled in
    (omega (arith, within, long), message_short m text spells)

no_identifier : is_among (permitted Draft) 1520 ≡ false
unfolding permitted
no_identifier = refl

-- a draft has no identifier of its own
unnumbered : (tags : List Tag) → list_all (is_among (permitted Draft)) (numbers tags) ≡ true → is_among (numbers tags) 1520 ≡ false
unnumbered tags allowed = go (is_among (numbers tags) 1520) (all_at (is_among (permitted Draft)) (numbers tags) 1520 allowed)
  where
    go : (b : Bool) → (b ≡ true → is_among (permitted Draft) 1520 ≡ true) → b ≡ false
    go true there = absurd (let wrong : true ≡ false = sym (there refl) ∙ no_identifier in cc)
    go false there = refl

pub draft_keeps : (text : List ℕ) (m : Content) (imad : Imad) → decoded Draft text ≡ Some m → IsImad imad
    → KeepsDraft imad (draft_text m imad)
draft_keeps text m imad found is =
    let h = decoded_spelled Draft text m found in
    let own : Content = numbered m (imad_text imad) in
    let sound = numbered_sound text m imad found is.sender in
    let spells = numbered_spells text m imad found is.sender in
    let allowed : list_all (is_among (permitted Draft)) (numbers m.tags) ≡ true =
    subst (λ (form : Form). list_all (is_among (permitted form)) (numbers m.tags) ≡ true) h.1 h.0.sound.tags_sound.allowed in
    let there =
    others_found 1500 1520 own.tags 11 32 sound.tags_sound.led refl
    ∙ put_found 1510 (imad_tag (imad_text imad)) m.tags (unnumbered m.tags allowed) in
    record {
      message = marked_with 32 own;
      read = spelled_as Input (draft_text m imad) (marked_with 32 own) spells refl;
      named = ap (λ (v : Option Tag). read_imad (fixed_of v)) there ∙ read_imad-imad_text imad is;
      blank = new_mark own 32 sound;
    }
