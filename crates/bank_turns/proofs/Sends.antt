-- The frames that a bank's step sends are frames, and what it drafts spells a submission.
use Rattle.std.proofs.Common.{◌≡◌, ⊎_elim, refl, sym, ap, subst, ℕ, ◌+◌, ◌≤◌, ◌==◌, Bool, true, false, List, [], ◌∷◌, length, map, Option, Some, None, arith}
use Rattle.std.specs.Prelude.{bytes_eq, if◌then◌else◌, Result, Ok, Err}
use Rattle.std.specs.List.{Contains}
use Rattle.std.proofs.lemmas.List.{length-set}
use Rattle.faim_base.specs.declared.ids.Imad.{Imad}
use Rattle.faim_base.specs.declared.ids.OutPos.{OutPos}
use Rattle.faim_base.specs.declared.judgement.Refused.{Refused}
use Rattle.faim_base.specs.Ids.{imad_text}
use Rattle.faim_base.specs.Limits.{longest_message}
use Rattle.faim_base.specs.Numbers.{greatest_seq}
use Rattle.faim_base.specs.Ranges.{IsEndpoint}
use Rattle.faim_base.proofs.IdLemmas.{length-position_text}
use Rattle.faim_message.specs.declared.form.Form.{Form}
use Rattle.faim_message.specs.Decoded.{decoded}
use Rattle.faim_message.specs.Numbering.{imad_tag, numbered}
use Rattle.faim_message.specs.Spelling.{Content, IsMessage, Spells, marked_with, message_spelling}
use Rattle.faim_message.proofs.Decodings.{decoded_spelled}
use Rattle.faim_message.proofs.Lengths.{message_short}
use Rattle.faim_message.proofs.MarkBytes.{mark_spells}
use Rattle.faim_message.proofs.Numbered.{IsMessage-put}
use Rattle.faim_model.proofs.Drawn.{from_filter, from_map, from_take}
use Rattle.faim_model.proofs.Fills.{imad_is_tag}
use Rattle.link_frames.specs.declared.frame.FrameKind.{FrameKind}
use Rattle.link_frames.specs.Frames.{Content as Frame, IsFrame}
use Rattle.bank_books.specs.declared.entries.BankEntry.{BankEntry}
use Rattle.bank_books.specs.declared.entries.BankOpening.{BankOpening}
use Rattle.bank_books.specs.declared.outcomes.AckCase.{AckCase}
use Rattle.bank_books.specs.declared.outcomes.OutCase.{OutCase}
use Rattle.bank_books.specs.declared.outcomes.SeqFull.{SeqFull as Full}
use Rattle.bank_books.specs.Drafts.{Draft, ack_case, drafts, is_open, open_drafts}
use Rattle.bank_books.specs.Inbox.{bank_cycle, out_case, wanted}
use Rattle.bank_books.specs.Lawful.{LawfulBank}
use Rattle.bank_books.specs.Numbering.{drafts_in_cycle, next_imad, seq_full}
use Rattle.bank_books.proofs.Members.{before_or_last, none_in}
use Rattle.bank_books.proofs.Numbers.{own_source}
use Rattle.bank_turns.specs.DraftFaults.{draft_fault}
use Rattle.bank_turns.specs.Drafting.{draft_text, retrieve, submit}
use Rattle.bank_turns.specs.AckTexts.{Told, ack_told}
use Rattle.bank_turns.specs.OutputTexts.{Given, output_given}
use Rattle.bank_turns.specs.BankSteps.{BankStep, ack_step, answered_by, bank_step, draft_step, drafted_as, output_step, received_by, refused_with, reminded, step_on, strange, tick_step}

-- a draft with an IMAD is a submission
pub numbered_sound : (payload : List ℕ) (m : Content) (imad : Imad) → decoded Form.Draft payload ≡ Some m → IsEndpoint imad.source
    → IsMessage (numbered m (imad_text imad))
numbered_sound payload m imad found line =
    let h = decoded_spelled Form.Draft payload m found in
    let draft : IsMessage (record { form = Form.Draft; breaks = m.breaks; tags = m.tags }) =
    subst (λ (form : Form). IsMessage (record { form = form; breaks = m.breaks; tags = m.tags })) h.1 h.0.sound in
    IsMessage-put m.breaks 1510 (imad_tag (imad_text imad)) m.tags refl (imad_is_tag imad line) draft

-- with a blank as its mark its text spells it
pub numbered_spells : (payload : List ℕ) (m : Content) (imad : Imad) → decoded Form.Draft payload ≡ Some m → IsEndpoint imad.source
    → Spells (marked_with 32 (numbered m (imad_text imad))) (draft_text m imad)
numbered_spells payload m imad found line =
    let put = numbered_sound payload m imad found line in
    let marked = mark_spells (numbered m (imad_text imad)) (message_spelling (numbered m (imad_text imad))) 32 (record { sound = put; spelled = refl }) refl in
    record { sound = marked.sound; spelled = refl }

-- the next IMAD is of the bank's own endpoint
next_source : (o : BankOpening) (es : List BankEntry) (imad : Imad) → next_imad o es ≡ Ok imad → imad.source ≡ o.endpoint
next_source o es imad = go (drafts_in_cycle o es == greatest_seq)
  where
    go : (b : Bool) → (if b then Err seq_full else Ok (record { date = bank_cycle o es; source = o.endpoint; seq = drafts_in_cycle o es + 1 })) ≡ Ok imad
        → imad.source ≡ o.endpoint
    go true is = absurd cc
    go false is =
        let same : record { date = bank_cycle o es; source = o.endpoint; seq = drafts_in_cycle o es + 1 } ≡ imad = cc in
        sym (ap (λ (i : Imad). i.source) same)

submit_fits : (imad : Imad) (text : List ℕ) (mark : ℕ) → IsEndpoint imad.source → length text ≤ longest_message → IsFrame (submit imad text mark)
submit_fits imad text mark line short = record { endpoint = line; payload = omega (arith, length-set text 17 mark, short) }

retrieve_fits : (line : List ℕ) (at : OutPos) → IsEndpoint line → IsFrame (retrieve line at)
retrieve_fits line at own = record { endpoint = own; payload = omega (arith, length-position_text at) }

-- the only member of a list of one
only_one : (x y : Frame) → Contains (x ∷ []) y → y ≡ x
only_one x y there = ⊎_elim (λ (none : Contains [] y). absurd (none_in y none)) (λ (own : y ≡ x). own) (before_or_last x y [] there)

module _ (o : BankOpening) (es : List BankEntry) (line : IsEndpoint o.endpoint) where
  -- what a step sends are frames
  abbrev Fits : BankStep → Type 0
  Fits s = (g : Frame) → Contains s.sends g → IsFrame g

  nothing_fits : (g : Frame) → Contains [] g → IsFrame g
  nothing_fits g there = absurd (none_in g there)

  one_fits : (own : Frame) → IsFrame own → (g : Frame) → Contains (own ∷ []) g → IsFrame g
  one_fits own fits g there = subst IsFrame (sym (only_one own g there)) fits

  refused_fits : (found : Option Refused) → Fits (refused_with found)
  refused_fits None = nothing_fits
  refused_fits (Some fault) = nothing_fits

  drafted_fits : (payload : List ℕ) (m : Content) → decoded Form.Draft payload ≡ Some m → (number : Result Imad Full) → next_imad o es ≡ number → Fits (drafted_as m number)
  drafted_fits payload m found (Err full) is = nothing_fits
  drafted_fits payload m found (Ok imad) is =
      let own : IsEndpoint imad.source = subst IsEndpoint (sym (next_source o es imad is)) line in
      let short = message_short (marked_with 32 (numbered m (imad_text imad))) (draft_text m imad) (numbered_spells payload m imad found own) in
      one_fits (submit imad (draft_text m imad) 32) (submit_fits imad (draft_text m imad) 32 own short)

  draft_fits : (payload : List ℕ) (found : Option Content) → decoded Form.Draft payload ≡ found → Fits (draft_step o es payload found)
  draft_fits payload None is = refused_fits (draft_fault payload)
  draft_fits payload (Some m) is = drafted_fits payload m is (next_imad o es) refl

  answered_fits : (t : Told) (found : AckCase) → Fits (answered_by t found)
  answered_fits t AckCase.Strange = nothing_fits
  answered_fits t AckCase.Repeated = nothing_fits
  answered_fits t AckCase.Fresh = nothing_fits

  ack_fits : (told : Option Told) → Fits (ack_step es told)
  ack_fits None = nothing_fits
  ack_fits (Some t) = answered_fits t (ack_case es t.imad)

  received_fits : (g : Given) (found : OutCase) → Fits (received_by o es g found)
  received_fits g OutCase.Repeated = nothing_fits
  received_fits g OutCase.Gap = one_fits (retrieve o.endpoint (wanted o es)) (retrieve_fits o.endpoint (wanted o es) line)
  received_fits g OutCase.Next = nothing_fits

  output_fits : (found : Option Given) → Fits (output_step o es found)
  output_fits None = nothing_fits
  output_fits (Some g) = received_fits g (out_case o es g.at)

  module _ (lawful : LawfulBank o es) (short : (d : Draft) → Contains (drafts es) d → length d.text ≤ longest_message) where
    again_fits : (g : Frame) → Contains (map (λ (d : Draft). submit d.imad d.text 80) (reminded es)) g → IsFrame g
    again_fits g there =
        let from = from_map (λ (d : Draft). submit d.imad d.text 80) (reminded es) g there in
        let kept = from_filter (is_open es) (drafts es) from.0 (from_take 64 (open_drafts es) from.0 from.1) in
        let own : IsEndpoint from.0.imad.source = subst IsEndpoint (sym (own_source o es from.0 lawful kept)) line in
        subst IsFrame from.2 (submit_fits from.0.imad from.0.text 80 own (short from.0 kept))

    tick_fits : Fits (tick_step o es)
    tick_fits g there =
        ⊎_elim (λ (old : Contains (map (λ (d : Draft). submit d.imad d.text 80) (reminded es)) g). again_fits g old)
        (λ (last : g ≡ retrieve o.endpoint (wanted o es)). subst IsFrame (sym last) (retrieve_fits o.endpoint (wanted o es) line))
        (before_or_last (retrieve o.endpoint (wanted o es)) g (map (λ (d : Draft). submit d.imad d.text 80) (reminded es)) there)

    on_line : (kind : FrameKind) (payload : List ℕ) → Fits (step_on o es kind payload)
    on_line FrameKind.Draft payload = draft_fits payload (decoded Form.Draft payload) refl
    on_line FrameKind.Tick payload = tick_fits
    on_line FrameKind.Ack payload = ack_fits (ack_told o payload)
    on_line FrameKind.Output payload = output_fits (output_given o payload)
    on_line FrameKind.Submit payload = nothing_fits
    on_line FrameKind.Retrieve payload = nothing_fits
    on_line FrameKind.Roll payload = nothing_fits

    any_fits : (b : Bool) (kind : FrameKind) (payload : List ℕ) → Fits (if b then step_on o es kind payload else strange)
    any_fits true kind payload = on_line kind payload
    any_fits false kind payload = nothing_fits

    pub step_fits : (f : Frame) (g : Frame) → Contains (bank_step o es f).sends g → IsFrame g
    step_fits f = any_fits (bytes_eq f.endpoint o.endpoint) f.kind f.payload
