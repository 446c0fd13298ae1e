-- Each frame that a bank's step sends is covered by the list that it leaves.
use Rattle.std.proofs.Common.{◌≡◌, ◌⊎◌, inl, inr, ⊎_elim, refl, sym, subst, ℕ, Bool, true, false, List, [], ◌∷◌, ◌++◌, length, map, Option, Some, None, Ok, Err, Result}
use Rattle.std.specs.Prelude.{bytes_eq, if◌then◌else◌}
use Rattle.std.specs.List.{Contains}
use Rattle.std.proofs.lemmas.List.Elements.{Contains-append_left, Contains-append_right}
use Rattle.faim_base.specs.declared.ids.Imad.{Imad}
use Rattle.faim_base.specs.declared.judgement.Refused.{Refused}
use Rattle.faim_message.specs.declared.form.Form.{Form}
use Rattle.faim_message.specs.Decoded.{decoded}
use Rattle.faim_message.specs.Spelling.{Content}
use Rattle.faim_model.proofs.Drawn.{from_filter, from_map, from_take}
use Rattle.link_frames.specs.declared.frame.FrameKind.{FrameKind}
use Rattle.link_frames.specs.Frames.{Content as Frame}
use Rattle.bank_books.specs.declared.entries.BankEntry.{BankEntry}
use Rattle.bank_books.specs.declared.entries.BankEntry.TheVariants.{Drafted, Answered, Received}
use Rattle.bank_books.specs.declared.entries.BankOpening.{BankOpening}
use Rattle.bank_books.specs.declared.outcomes.AckCase.{AckCase}
use Rattle.bank_books.specs.declared.outcomes.OutCase.{OutCase}
use Rattle.bank_books.specs.declared.outcomes.SeqFull.{SeqFull as Full}
use Rattle.bank_books.specs.Drafts.{Draft, ack_case, drafts, is_open, open_drafts}
use Rattle.bank_books.specs.Inbox.{out_case, wanted}
use Rattle.bank_books.specs.Numbering.{next_imad}
use Rattle.bank_books.proofs.Members.{before_or_last, first_in, none_in}
use Rattle.bank_turns.specs.DraftFaults.{draft_fault}
use Rattle.bank_turns.specs.Drafting.{draft_text, retrieve, submit}
use Rattle.bank_turns.specs.AckTexts.{Told, ack_told}
use Rattle.bank_turns.specs.OutputTexts.{Given, output_given}
use Rattle.bank_turns.specs.BankSteps.{BankStep, ack_step, adds_to, answered_by, bank_step, draft_step, drafted_as, output_step, received_by, refused_with, reminded, step_on, strange, tick_step}
use Rattle.bank_session.specs.Promises.{Covered, IsSubmission}

-- ---- the drafts of a longer list

pub drafts_stay : (newer es : List BankEntry) (d : Draft) → Contains (drafts es) d → Contains (drafts (newer ++ es)) d
drafts_stay [] es d there = there
drafts_stay (Drafted imad text ∷ newer) es d there =
    Contains-append_left (drafts (newer ++ es)) (record { place = length (drafts (newer ++ es)); imad = imad; text = text } ∷ []) d (drafts_stay newer es d there)
drafts_stay (Answered imad verdict ∷ newer) es d there = drafts_stay newer es d there
drafts_stay (Received at text next ∷ newer) es d there = drafts_stay newer es d there

-- a longer list covers what a list covers
pub covered_by_longer : (o : BankOpening) (newer es : List BankEntry) (f : Frame) → Covered o es f → Covered o (newer ++ es) f
covered_by_longer o newer es f (inl s) = inl (record { draft = s.draft; there = drafts_stay newer es s.draft s.there; mark = s.mark; marked = s.marked; sent = s.sent })
covered_by_longer o newer es f (inr r) = inr r

-- ---- a step

module _ (o : BankOpening) (es : List BankEntry) where
  -- what a step sends is covered
  abbrev AreCovered : BankStep → Type 0
  AreCovered s = (g : Frame) → Contains s.sends g → Covered o (adds_to s.adds es) g

  nothing : (s : BankStep) → s.sends ≡ [] → AreCovered s
  nothing s none g there = absurd (none_in g (subst (λ (l : List Frame). Contains l g) none there))

  asked : (g : Frame) → Contains (retrieve o.endpoint (wanted o es) ∷ []) g → Covered o es g
  asked g there =
      ⊎_elim (λ (none : Contains [] g). absurd (none_in g none)) (λ (own : g ≡ retrieve o.endpoint (wanted o es)). inr (record { at = wanted o es; sent = own }))
      (before_or_last (retrieve o.endpoint (wanted o es)) g [] there)

  refused : (found : Option Refused) → AreCovered (refused_with found)
  refused None = nothing (refused_with None) refl
  refused (Some fault) = nothing (refused_with (Some fault)) refl

  drafted : (m : Content) (number : Result Imad Full) → AreCovered (drafted_as m number)
  drafted m (Err full) g there = nothing (drafted_as m (Err full)) refl g there
  drafted m (Ok imad) g there =
      let own : Draft = record { place = length (drafts es); imad = imad; text = draft_text m imad } in
      ⊎_elim (λ (none : Contains [] g). absurd (none_in g none))
      (λ (is : g ≡ submit imad (draft_text m imad) 32).
      inl (record { draft = own; there = Contains-append_right (drafts es) (own ∷ []) own (first_in own []); mark = 32; marked = inl refl; sent = is }))
      (before_or_last (submit imad (draft_text m imad) 32) g [] there)

  draft : (payload : List ℕ) (found : Option Content) → AreCovered (draft_step o es payload found)
  draft payload None = refused (draft_fault payload)
  draft payload (Some m) = drafted m (next_imad o es)

  answered : (t : Told) (found : AckCase) → AreCovered (answered_by t found)
  answered t AckCase.Strange = nothing (answered_by t AckCase.Strange) refl
  answered t AckCase.Repeated = nothing (answered_by t AckCase.Repeated) refl
  answered t AckCase.Fresh = nothing (answered_by t AckCase.Fresh) refl

  ack : (told : Option Told) → AreCovered (ack_step es told)
  ack None = nothing (ack_step es None) refl
  ack (Some t) = answered t (ack_case es t.imad)

  received : (g : Given) (found : OutCase) → AreCovered (received_by o es g found)
  received g OutCase.Repeated = nothing (received_by o es g OutCase.Repeated) refl
  received g OutCase.Gap = asked
  received g OutCase.Next = nothing (received_by o es g OutCase.Next) refl

  output : (found : Option Given) → AreCovered (output_step o es found)
  output None = nothing (output_step o es None) refl
  output (Some g) = received g (out_case o es g.at)

  again : (g : Frame) → Contains (map (λ (d : Draft). submit d.imad d.text 80) (reminded es)) g → Covered o es g
  again g there =
      let from = from_map (λ (d : Draft). submit d.imad d.text 80) (reminded es) g there in
      let kept = from_filter (is_open es) (drafts es) from.0 (from_take 64 (open_drafts es) from.0 from.1) in
      inl (record { draft = from.0; there = kept; mark = 80; marked = inr refl; sent = sym from.2 })

  tick : AreCovered (tick_step o es)
  tick g there =
      ⊎_elim (again g) (λ (last : g ≡ retrieve o.endpoint (wanted o es)). inr (record { at = wanted o es; sent = last }))
      (before_or_last (retrieve o.endpoint (wanted o es)) g (map (λ (d : Draft). submit d.imad d.text 80) (reminded es)) there)

  on_line : (kind : FrameKind) (payload : List ℕ) → AreCovered (step_on o es kind payload)
  on_line FrameKind.Draft payload = draft payload (decoded Form.Draft payload)
  on_line FrameKind.Tick payload = tick
  on_line FrameKind.Ack payload = ack (ack_told o payload)
  on_line FrameKind.Output payload = output (output_given o payload)
  on_line FrameKind.Submit payload = nothing strange refl
  on_line FrameKind.Retrieve payload = nothing strange refl
  on_line FrameKind.Roll payload = nothing strange refl

  any : (b : Bool) (kind : FrameKind) (payload : List ℕ) → AreCovered (if b then step_on o es kind payload else strange)
  any true kind payload = on_line kind payload
  any false kind payload = nothing strange refl

  pub step_covered : (f : Frame) → AreCovered (bank_step o es f)
  step_covered f = any (bytes_eq f.endpoint o.endpoint) f.kind f.payload
