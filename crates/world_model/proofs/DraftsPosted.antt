-- What a host posts of a draft that a bank submits is that draft.
use Rattle.std.proofs.Common.{◌≡◌, refl, sym, ap, ◌∙◌, ℕ, true, List, set, take, drop, Option, Some}
use Rattle.std.specs.Prelude.{Result, Ok, Err}
use Rattle.std.proofs.lemmas.List.{set-get_or}
use Rattle.faim_base.specs.Digits.{number_of}
use Rattle.faim_base.specs.Ids.{◌>>=◌, read_imad}
use Rattle.faim_base.specs.Text.{is_text_byte}
use Rattle.faim_base.specs.declared.ids.IdFault.{IdFault}
use Rattle.faim_base.specs.declared.ids.Imad.{Imad}
use Rattle.faim_base.specs.declared.judgement.Head.{Head}
use Rattle.faim_base.specs.declared.judgement.Reject.{Reject}
use Rattle.faim_tags.specs.Spelling.{Tag}
use Rattle.faim_message.specs.declared.form.Form.{Form}
use Rattle.faim_message.specs.declared.form.Form.TheVariants.{Input}
use Rattle.faim_message.specs.Decoded.{decoded}
use Rattle.faim_message.specs.Heads.{fixed_in, head_in, head_of}
use Rattle.faim_message.specs.Spelling.{Content, mark_in, marked_with}
use Rattle.faim_message.proofs.Decodings.{decoded_spelled, spelled_as}
use Rattle.faim_message.proofs.Submissions.{mark_shown, reads_marked, same_head}
use Rattle.faim_model.specs.Submissions.{Numbered, submission, text_with}
use Rattle.faim_model.proofs.Marks.{set_twice}
use Rattle.faim_model.proofs.Submitted.{numbered_from}
use Rattle.bank_turns.specs.KeptTexts.{KeepsDraft}

-- a blank in the place of a blank changes nothing
blank_stays : (text : List ℕ) (m : Content) → decoded Input text ≡ Some m → mark_in Input m.tags ≡ 32 → set text 17 32 ≡ text
blank_stays text m read blank =
    let is_input = (decoded_spelled Input text m read).1 in
    let own : mark_in m.form m.tags ≡ 32 = ap (λ (f : Form). mark_in f m.tags) is_input ∙ blank in
    ap (set text 17) (sym own ∙ mark_shown text m read) ∙ set-get_or text 17 0

-- the identifier of a head is the one that its tags name
bound_head : (read : Result Imad IdFault) (build : Imad → Head) (h : Head) (imad : Imad) → ((i : Imad) → (build i).imad ≡ i)
    → (read >>= (λ (i : Imad). Ok (build i))) ≡ Ok h → read ≡ Ok imad → h.imad ≡ imad
bound_head (Err fault) build h imad own head named = absurd cc
bound_head (Ok i) build h imad own head named =
    let same : build i ≡ h = cc in
    let is : i ≡ imad = cc in
    ap (λ (x : Head). x.imad) (sym same) ∙ own i ∙ is

named_head : (tags : List Tag) (h : Head) (imad : Imad) → head_in tags ≡ Ok h → read_imad (fixed_in tags 1520) ≡ Ok imad → h.imad ≡ imad
named_head tags h imad head named =
    bound_head (read_imad (fixed_in tags 1520)) (λ i. record {
      imad = i;
      sender = fixed_in tags 3100;
      receiver = fixed_in tags 3400;
      code = fixed_in tags 3600;
      kind = number_of (take 2 (fixed_in tags 1510));
      sub = number_of (drop 2 (fixed_in tags 1510));
      amount = number_of (fixed_in tags 2000);
    }) h imad (λ i. refl) head named

pub draft_posted : (env : ℕ) (imad : Imad) (text : List ℕ) (mark : ℕ) (h : Head) (body : List ℕ) (own : ℕ) (failed : Option Reject)
    → KeepsDraft imad text → is_text_byte mark ≡ true → submission env (text_with mark text) ≡ Numbered h body own failed
    → (h.imad ≡ imad) × (body ≡ text)
draft_posted env imad text mark h body own failed keeps is_text is =
    let n = numbered_from env (set text 17 mark) h body own failed is in
    let read = reads_marked text keeps.message mark keeps.read is_text in
    let again = spelled_as Input (set text 17 mark) n.message n.spells n.is_input in
    let same : marked_with mark keeps.message ≡ n.message = cc in
    let s = decoded_spelled Input text keeps.message keeps.read in
    let head : head_of keeps.message ≡ Ok h = sym (same_head keeps.message mark s.0.sound) ∙ ap head_of same ∙ n.head in (
      named_head keeps.message.tags h imad head keeps.named,
      n.body_is ∙ set_twice text 17 mark 32 ∙ blank_stays text keeps.message keeps.read keeps.blank,
    )
