-- An output hands on the body's text.
use Rattle.std.proofs.Common.{◌≡◌, sym, ap, ◌∙◌, ℕ, Bool, true, false, cond, set, List, [], ◌∷◌, ◌++◌, append_assoc, Some}
use Rattle.std.specs.List.{flat_map}
use Rattle.faim_tags.specs.Spelling.{Tag, spelling}
use Rattle.faim_base.specs.declared.judgement.Head.{Head}
use Rattle.faim_base.specs.declared.judgement.Verdict.{Verdict}
use Rattle.faim_message.specs.declared.form.Form.{Form}
use Rattle.faim_message.specs.declared.form.Form.TheVariants.{Input}
use Rattle.faim_message.specs.Forms.{between, ending}
use Rattle.faim_message.specs.Decoded.{decoded}
use Rattle.faim_message.specs.Spelling.{AreTags, Content, Spells, joined, mark_byte, marked_with, message_spelling}
use Rattle.faim_message.proofs.Decodings.{decoded_spelled}
use Rattle.faim_message.proofs.Duplication.{IsMessage-marked}
use Rattle.faim_message.proofs.MarkBytes.{mark_alone}
use Rattle.host_ledger.specs.declared.entries.Entry.{Entry}
use Rattle.host_ledger.specs.declared.entries.Entry.TheVariants.{Posted}
use Rattle.faim_model.specs.Outputs.{Item}
use Rattle.faim_model.specs.Submissions.{text_with}
use Rattle.faim_model.specs.Lawful.{moment_of}
use Rattle.faim_model.specs.ServiceTags.{moment_tag, output_tag, status_tag}
use Rattle.faim_model.specs.Deliveries.{delivered_breaks, delivered_tags, host_tags, output_message, output_status}
use Rattle.faim_model.proofs.Written.{mark_of_resent, posted_is}

-- three parts with a break after each, in front of others
three_broken : (sep x y z rest : List ℕ) → x ++ (sep ++ (y ++ (sep ++ (z ++ (sep ++ rest))))) ≡ ((x ++ sep) ++ ((y ++ sep) ++ ((z ++ sep) ++ []))) ++ rest
three_broken sep x y z rest = simp append_assoc

front_joined : (form : Form) (sep end : List ℕ) (a b c : Tag) (tags : List Tag) → AreTags form tags
    → joined sep end (a ∷ b ∷ c ∷ tags) ≡ flat_map (λ t. spelling t ++ sep) (a ∷ b ∷ c ∷ []) ++ joined sep end tags
front_joined form sep end a b c [] are = absurd (let wrong : false ≡ true = are.led in cc)
front_joined form sep end a b c (v ∷ tags) are = three_broken sep (spelling a) (spelling b) (spelling c) (joined sep end (v ∷ tags))

-- the submission's text with another mark
marked_text : (body : List ℕ) (m : Content) (mark : ℕ) → Spells m body → m.form ≡ Input → message_spelling (marked_with mark m) ≡ text_with mark body
marked_text body m mark spells form =
    mark_alone m mark spells.sound ∙ ap (λ (f : Form). set (message_spelling m) (mark_byte f) mark) form ∙ ap (λ (text : List ℕ). text_with mark text) (sym spells.spelled)

module _ (env : ℕ) (e : List ℕ) (i : Item) (mark : ℕ) (h : Head) (body : List ℕ) (resent : Bool) (moment : ℕ) (v : Verdict) (m : Content) where
  -- an output by what is delivered
  abbrev with_delivered : Content → List ℕ
  with_delivered s = joined (between s.breaks) (ending s.breaks) (host_tags env e i mark ++ s.tags)

  pub handed_on : i.entry ≡ Posted h body resent moment v → decoded Input body ≡ Some m
      → message_spelling (output_message env e i mark) ≡ flat_map (λ t. spelling t ++ between m.breaks) (host_tags env e i mark) ++ text_with (cond resent 80 32) body
  handed_on entry read =
      let s = decoded_spelled Input body m read in
      let w = marked_with (cond resent 80 32) m in
      ap (λ (x : Entry). joined (between (delivered_breaks x)) (ending (delivered_breaks x)) (host_tags env e i mark ++ delivered_tags x)) entry
      ∙ ap with_delivered (posted_is body resent m read)
      ∙ front_joined m.form (between m.breaks) (ending m.breaks) (status_tag env mark (output_status i.entry)) (moment_tag (moment_of i.entry))
      (output_tag i.at e (moment_of i.entry)) w.tags (IsMessage-marked m (cond resent 80 32) s.0.sound (mark_of_resent resent)).tags_sound
      ∙ ap (λ (text : List ℕ). flat_map (λ t. spelling t ++ between m.breaks) (host_tags env e i mark) ++ text) (marked_text body m (cond resent 80 32) s.0 s.1)
