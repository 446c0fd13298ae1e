-- What a bank's step sends comes from that bank: one of its drafts, or a request for its outputs.
use Rattle.std.proofs.Common.{◌≡◌, ◌⊎◌, ⊎_elim, inl, inr, refl, sym, ap, subst, ◌∙◌, ℕ, ◌≤◌, Bool, true, false, List, [], ◌∷◌, length, map, Option, Some, None, arith}
use Rattle.std.specs.Prelude.{bytes_eq, if◌then◌else◌, Result, Ok, Err}
use Rattle.std.specs.List.{Contains}
use Rattle.std.proofs.lemmas.List.Elements.{Contains-append_right}
use Rattle.faim_base.specs.declared.ids.Imad.{Imad}
use Rattle.faim_base.specs.declared.ids.OutPos.{OutPos}
use Rattle.faim_base.specs.declared.judgement.Refused.{Refused}
use Rattle.faim_base.specs.Numbers.{IsDay, IsSeq}
use Rattle.faim_message.specs.declared.form.Form.{Form}
use Rattle.faim_message.specs.Decoded.{decoded}
use Rattle.faim_message.specs.Spelling.{Content}
use Rattle.link_frames.specs.declared.frame.FrameKind.{FrameKind}
use Rattle.link_frames.specs.Frames.{Content as Frame}
use Rattle.bank_books.specs.declared.entries.BankEntry.{BankEntry}
use Rattle.bank_books.specs.declared.entries.BankEntry.TheVariants as entry
use Rattle.bank_books.specs.declared.entries.BankOpening.{BankOpening}
use Rattle.bank_books.specs.declared.outcomes.AckCase.{AckCase}
use Rattle.bank_books.specs.declared.outcomes.OutCase.{OutCase}
use Rattle.bank_books.specs.declared.outcomes.SeqFull.{SeqFull as Full}
use Rattle.bank_books.specs.Drafts.{Draft, ack_case, drafts, is_open, open_drafts}
use Rattle.bank_books.specs.Inbox.{out_case, wanted, wanted_number}
use Rattle.bank_books.specs.Lawful.{LawfulBank}
use Rattle.bank_books.specs.Numbering.{next_imad}
use Rattle.bank_books.proofs.Counted.{is_next}
use Rattle.bank_books.proofs.Members.{before_or_last, none_in}
use Rattle.bank_books.proofs.Numbers.{own_source}
use Rattle.faim_model.specs.Requests.{IsRetrieve}
use Rattle.faim_model.proofs.Drawn.{from_filter, from_map, from_take}
use Rattle.faim_model.proofs.Members.{first_in}
use Rattle.bank_turns.specs.DraftFaults.{draft_fault}
use Rattle.bank_turns.specs.Drafting.{draft_text, retrieve, submit}
use Rattle.bank_turns.specs.AckTexts.{Told, ack_told}
use Rattle.bank_turns.specs.OutputTexts.{Given, output_given}
use Rattle.bank_turns.specs.BankSteps.{BankStep, ack_step, adds_to, answered_by, bank_step, draft_step, drafted_as, output_step, received_by, refused_with, reminded, step_on, strange, tick_step}
use Rattle.bank_turns.proofs.KeptSteps.{cycle_is_day}
use Rattle.world_model.specs.Safety.{IsSubmission}

-- the wanted number is one of a message
wanted_is_number : (o : BankOpening) (es : List BankEntry) → LawfulBank o es → IsSeq (wanted_number es)
wanted_is_number o [] lawful = (omega arith, omega arith)
wanted_is_number o (entry.Drafted imad text ∷ older) lawful = wanted_is_number o older lawful.1
wanted_is_number o (entry.Answered imad verdict ∷ older) lawful = wanted_is_number o older lawful.1
wanted_is_number o (entry.Received at text (Some date) ∷ older) lawful = (omega arith, omega arith)
wanted_is_number o (entry.Received at text None ∷ older) lawful =
    let few : at.seq ≤ 999_998 = lawful.0.date in (omega arith, omega (arith, few))

-- the only member of a list of one
only_one : (x y : Frame) → Contains (x ∷ []) y → y ≡ x
only_one x y there = ⊎_elim (λ (none : Contains [] y). absurd (none_in y none)) (λ (own : y ≡ x). own) (before_or_last x y [] there)

module _ (o : BankOpening) (es : List BankEntry) (day : IsDay o.date) (lawful : LawfulBank o es) where
  -- a frame of a bank that has these entries
  abbrev OfBank : List BankEntry → Frame → Type 0
  OfBank kept g = (g.endpoint ≡ o.endpoint) × (IsSubmission kept g ⊎ ((at : OutPos) × IsRetrieve g at))

  abbrev pub SendsOwn : BankStep → Type 0
  SendsOwn s = (g : Frame) → Contains s.sends g → OfBank (adds_to s.adds es) g

  nothing_own : (kept : List BankEntry) (g : Frame) → Contains [] g → OfBank kept g
  nothing_own kept g there = absurd (none_in g there)

  one_own : (kept : List BankEntry) (own : Frame) → OfBank kept own → (g : Frame) → Contains (own ∷ []) g → OfBank kept g
  one_own kept own is g there = subst (OfBank kept) (sym (only_one own g there)) is

  asks_own : (kept : List BankEntry) → OfBank kept (retrieve o.endpoint (wanted o es))
  asks_own kept =
      (refl, inr (wanted o es, record { kind = refl; position = record { day = cycle_is_day o es day lawful; number = wanted_is_number o es lawful }; payload = refl }))

  refused_own : (found : Option Refused) → SendsOwn (refused_with found)
  refused_own None = nothing_own es
  refused_own (Some fault) = nothing_own es

  drafted_own : (m : Content) (number : Result Imad Full) → next_imad o es ≡ number → SendsOwn (drafted_as m number)
  drafted_own m (Err full) is = nothing_own es
  drafted_own m (Ok imad) is =
      let text = draft_text m imad in
      let last : Draft = record { place = length (drafts es); imad = imad; text = text } in
      one_own (entry.Drafted imad text ∷ es) (submit imad text 32) (
        (is_next o es imad is).source,
        inl (record {
          draft = last;
          there = Contains-append_right (drafts es) (last ∷ []) last (first_in last []);
          mark = 32;
          marked = inl refl;
          sent = refl;
        }),
      )

  draft_own : (payload : List ℕ) (found : Option Content) → SendsOwn (draft_step o es payload found)
  draft_own payload None = refused_own (draft_fault payload)
  draft_own payload (Some m) = drafted_own m (next_imad o es) refl

  answered_own : (t : Told) (found : AckCase) → SendsOwn (answered_by t found)
  answered_own t AckCase.Strange = nothing_own es
  answered_own t AckCase.Repeated = nothing_own es
  answered_own t AckCase.Fresh = nothing_own (entry.Answered t.imad t.verdict ∷ es)

  ack_own : (told : Option Told) → SendsOwn (ack_step es told)
  ack_own None = nothing_own es
  ack_own (Some t) = answered_own t (ack_case es t.imad)

  received_own : (g : Given) (found : OutCase) → SendsOwn (received_by o es g found)
  received_own g OutCase.Repeated = nothing_own es
  received_own g OutCase.Gap = one_own es (retrieve o.endpoint (wanted o es)) (asks_own es)
  received_own g OutCase.Next = nothing_own (entry.Received g.at g.text g.next ∷ es)

  output_own : (found : Option Given) → SendsOwn (output_step o es found)
  output_own None = nothing_own es
  output_own (Some g) = received_own g (out_case o es g.at)

  again_own : (g : Frame) → Contains (map (λ (d : Draft). submit d.imad d.text 80) (reminded es)) g → OfBank es g
  again_own g there =
      let from = from_map (λ (d : Draft). submit d.imad d.text 80) (reminded es) g there in
      let kept = from_filter (is_open es) (drafts es) from.0 (from_take 64 (open_drafts es) from.0 from.1) in (
        ap (λ (f : Frame). f.endpoint) (sym from.2) ∙ own_source o es from.0 lawful kept,
        inl (record { draft = from.0; there = kept; mark = 80; marked = inr refl; sent = sym from.2 }),
      )

  tick_own : SendsOwn (tick_step o es)
  tick_own g there =
      ⊎_elim (λ (old : Contains (map (λ (d : Draft). submit d.imad d.text 80) (reminded es)) g). again_own g old)
      (λ (last : g ≡ retrieve o.endpoint (wanted o es)). subst (OfBank es) (sym last) (asks_own es))
      (before_or_last (retrieve o.endpoint (wanted o es)) g (map (λ (d : Draft). submit d.imad d.text 80) (reminded es)) there)

  on_line : (kind : FrameKind) (payload : List ℕ) → SendsOwn (step_on o es kind payload)
  on_line FrameKind.Draft payload = draft_own payload (decoded Form.Draft payload)
  on_line FrameKind.Tick payload = tick_own
  on_line FrameKind.Ack payload = ack_own (ack_told o payload)
  on_line FrameKind.Output payload = output_own (output_given o payload)
  on_line FrameKind.Submit payload = nothing_own es
  on_line FrameKind.Retrieve payload = nothing_own es
  on_line FrameKind.Roll payload = nothing_own es

  any_own : (b : Bool) (kind : FrameKind) (payload : List ℕ) → SendsOwn (if b then step_on o es kind payload else strange)
  any_own true kind payload = on_line kind payload
  any_own false kind payload = nothing_own es

  pub step_sends_own : (f : Frame) → SendsOwn (bank_step o es f)
  step_sends_own f = any_own (bytes_eq f.endpoint o.endpoint) f.kind f.payload
