-- What a bank's step adds over a trusted frame is what the host says.
use Rattle.std.proofs.Common.{◌≡◌, refl, subst, ℕ, Bool, true, false, List, Option, Some, None}
use Rattle.std.specs.Prelude.{bytes_eq, if◌then◌else◌, Result, Ok, Err}
use Rattle.faim_base.specs.declared.ids.Imad.{Imad}
use Rattle.faim_base.specs.declared.judgement.Refused.{Refused}
use Rattle.faim_message.specs.declared.form.Form.TheVariants.{Draft}
use Rattle.faim_message.specs.Decoded.{decoded}
use Rattle.faim_message.specs.Spelling.{Content}
use Rattle.link_frames.specs.declared.frame.FrameKind.{FrameKind}
use Rattle.link_frames.specs.Frames.{Content as Frame}
use Rattle.host_ledger.specs.declared.config.Config.{Config}
use Rattle.host_ledger.specs.declared.entries.Entry.{Entry}
use Rattle.host_ledger.specs.Soundness.{IsConfig}
use Rattle.bank_books.specs.declared.entries.BankEntry.{BankEntry}
use Rattle.bank_books.specs.declared.entries.BankEntry.TheVariants as entry
use Rattle.bank_books.specs.declared.entries.BankOpening.{BankOpening}
use Rattle.bank_books.specs.declared.outcomes.AckCase.{AckCase}
use Rattle.bank_books.specs.declared.outcomes.OutCase.{OutCase}
use Rattle.bank_books.specs.declared.outcomes.SeqFull.{SeqFull as Full}
use Rattle.bank_books.specs.Drafts.{ack_case}
use Rattle.bank_books.specs.Inbox.{out_case}
use Rattle.bank_books.specs.Numbering.{next_imad}
use Rattle.faim_model.specs.Lawful.{Lawful}
use Rattle.faim_model.proofs.Imads.{bytes_equal}
use Rattle.bank_turns.specs.DraftFaults.{draft_fault}
use Rattle.bank_turns.specs.Drafting.{draft_text}
use Rattle.bank_turns.specs.AckTexts.{Told, ack_told}
use Rattle.bank_turns.specs.OutputTexts.{Given, output_given}
use Rattle.bank_turns.specs.BankSteps.{BankStep, ack_step, answered_by, bank_step, draft_step, drafted_as, output_step, received_by, refused_with, step_on, strange}
use Rattle.bank_accord.specs.Accord.{HasVerdict, IsTrusted, TrustedAs}
use Rattle.bank_accord.proofs.CoveredAcks.{told_stands}
use Rattle.bank_accord.proofs.CoveredOutputs.{ShowsOne, given_stands}

module _ (c : Config) (es : List Entry) (o : BankOpening) (sound : IsConfig c) (lawful : Lawful c es) where
  -- an entry says what the host says: a verdict is the host's, and an output is one of the host's items to the bank
  abbrev pub Brings : BankEntry → Type 0
  Brings (entry.Drafted imad text) = Unit {0}
  Brings (entry.Answered imad verdict) = HasVerdict es imad verdict
  Brings (entry.Received at text next) = ShowsOne c es sound lawful o.endpoint (record { at = at; text = text; next = next })

  -- so does what a step adds
  abbrev AddsBring : BankStep → Type 0
  AddsBring s = (x : BankEntry) → s.adds ≡ Some x → Brings x

  strange_brings : AddsBring strange
  strange_brings x adds = absurd cc

  one_brings : (own : BankEntry) → Brings own → (x : BankEntry) → Some own ≡ Some x → Brings x
  one_brings own brings x adds = let same : own ≡ x = cc in subst Brings same brings

  refused_brings : (found : Option Refused) → AddsBring (refused_with found)
  refused_brings None x adds = absurd cc
  refused_brings (Some fault) x adds = absurd cc

  drafted_brings : (m : Content) (number : Result Imad Full) → AddsBring (drafted_as m number)
  drafted_brings m (Err full) x adds = absurd cc
  drafted_brings m (Ok imad) x adds = one_brings (entry.Drafted imad (draft_text m imad)) tt x adds

  draft_brings : (kept : List BankEntry) (payload : List ℕ) (found : Option Content) → AddsBring (draft_step o kept payload found)
  draft_brings kept payload None = refused_brings (draft_fault payload)
  draft_brings kept payload (Some m) = drafted_brings m (next_imad o kept)

  answered_brings : (t : Told) (found : AckCase) → HasVerdict es t.imad t.verdict → AddsBring (answered_by t found)
  answered_brings t AckCase.Strange has x adds = absurd cc
  answered_brings t AckCase.Repeated has x adds = absurd cc
  answered_brings t AckCase.Fresh has x adds = one_brings (entry.Answered t.imad t.verdict) has x adds

  ack_brings : (kept : List BankEntry) (told : Option Told) → ((t : Told) → told ≡ Some t → HasVerdict es t.imad t.verdict) → AddsBring (ack_step kept told)
  ack_brings kept None has = strange_brings
  ack_brings kept (Some t) has = answered_brings t (ack_case kept t.imad) (has t refl)

  received_brings : (kept : List BankEntry) (g : Given) (found : OutCase) → ShowsOne c es sound lawful o.endpoint g → AddsBring (received_by o kept g found)
  received_brings kept g OutCase.Repeated shows x adds = absurd cc
  received_brings kept g OutCase.Gap shows x adds = absurd cc
  received_brings kept g OutCase.Next shows x adds = one_brings (entry.Received g.at g.text g.next) shows x adds

  output_brings : (kept : List BankEntry) (found : Option Given) → ((g : Given) → found ≡ Some g → ShowsOne c es sound lawful o.endpoint g)
      → AddsBring (output_step o kept found)
  output_brings kept None shows = strange_brings
  output_brings kept (Some g) shows = received_brings kept g (out_case o kept g.at) (shows g refl)

  on_line : (kept : List BankEntry) (kind : FrameKind) (line payload : List ℕ) → line ≡ o.endpoint
      → TrustedAs c es kind (record { kind = kind; endpoint = line; payload = payload }) → AddsBring (step_on o kept kind payload)
  on_line kept FrameKind.Draft line payload own trusted = draft_brings kept payload (decoded Draft payload)
  on_line kept FrameKind.Tick line payload own trusted = λ x adds. absurd cc
  on_line kept FrameKind.Ack line payload own trusted =
      let f : Frame = record { kind = FrameKind.Ack; endpoint = line; payload = payload } in
      ack_brings kept (ack_told o payload) (λ t told. told_stands c es o sound lawful f t trusted refl told)
  on_line kept FrameKind.Output line payload own trusted =
      let f : Frame = record { kind = FrameKind.Output; endpoint = line; payload = payload } in
      output_brings kept (output_given o payload)
      (λ g gives. subst (λ (e : List ℕ). ShowsOne c es sound lawful e g) own (given_stands c es sound lawful o f g trusted refl gives))
  on_line kept FrameKind.Submit line payload own trusted = strange_brings
  on_line kept FrameKind.Retrieve line payload own trusted = strange_brings
  on_line kept FrameKind.Roll line payload own trusted = strange_brings

  pub step_brings : (kept : List BankEntry) (f : Frame) → IsTrusted c es f → AddsBring (bank_step o kept f)
  step_brings kept f trusted = any_brings (bytes_eq f.endpoint o.endpoint) refl
    where
      any_brings : (b : Bool) → bytes_eq f.endpoint o.endpoint ≡ b → AddsBring (if b then step_on o kept f.kind f.payload else strange)
      any_brings true own = on_line kept f.kind f.endpoint f.payload (bytes_equal f.endpoint o.endpoint own) trusted
      any_brings false other = strange_brings
