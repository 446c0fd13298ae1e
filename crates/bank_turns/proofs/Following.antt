-- What a bank's step adds may follow its list.
use Rattle.std.proofs.Common.{◌≡◌, refl, subst, ℕ, Bool, true, false, not, List, Option, Some, None, arith}
use Rattle.std.specs.Prelude.{bytes_eq, if◌then◌else◌, Result, Ok, Err}
use Rattle.std.proofs.lemmas.Bool.Decides.{nat_tests}
use Rattle.faim_base.specs.declared.ids.Imad.{Imad}
use Rattle.faim_base.specs.declared.ids.OutPos.{OutPos}
use Rattle.faim_base.specs.declared.judgement.Refused.{Refused}
use Rattle.faim_base.specs.Ids.{is_up_to}
use Rattle.faim_message.specs.declared.form.Form.TheVariants.{Draft}
use Rattle.faim_message.specs.Decoded.{decoded}
use Rattle.faim_message.specs.Spelling.{Content}
use Rattle.link_frames.specs.declared.frame.FrameKind.{FrameKind}
use Rattle.link_frames.specs.Frames.{Content as Frame}
use Rattle.bank_books.specs.declared.entries.BankEntry.{BankEntry}
use Rattle.bank_books.specs.declared.entries.BankEntry.TheVariants as entry
use Rattle.bank_books.specs.declared.entries.BankOpening.{BankOpening}
use Rattle.bank_books.specs.declared.outcomes.AckCase.{AckCase}
use Rattle.bank_books.specs.declared.outcomes.OutCase.{OutCase}
use Rattle.bank_books.specs.declared.outcomes.SeqFull.{SeqFull as Full}
use Rattle.bank_books.specs.Drafts.{ack_case}
use Rattle.bank_books.specs.Inbox.{out_case, wanted}
use Rattle.bank_books.specs.Numbering.{next_imad}
use Rattle.bank_books.specs.Lawful.{BankFollows, LawfulBank, MayGoOn}
use Rattle.bank_turns.specs.DraftFaults.{draft_fault}
use Rattle.bank_turns.specs.Drafting.{draft_text}
use Rattle.bank_turns.specs.AckTexts.{Told, ack_told}
use Rattle.bank_turns.specs.OutputTexts.{Given, output_given}
use Rattle.bank_turns.specs.BankSteps.{BankStep, ack_step, adds_to, answered_by, bank_step, draft_step, drafted_as, output_step, received_by, refused_with, step_on, strange}
use Rattle.bank_turns.proofs.Givens.{output_goes}

-- positions of which neither is before the other are one
same_position : (p w : OutPos) → is_up_to w p ≡ true → is_up_to p w ≡ true → p ≡ w
same_position p w first second =
    let date : p.date ≡ w.date = grind (arith, nat_tests, first, second) in
    let seq : p.seq ≡ w.seq = grind (arith, nat_tests, first, second) in
    λ i. record { date = date i; seq = seq i }

-- an output that is the next stands at the wanted position
next_place : (o : BankOpening) (es : List BankEntry) (at : OutPos) → out_case o es at ≡ OutCase.Next → at ≡ wanted o es
next_place o es at = go (is_up_to (wanted o es) at) (is_up_to at (wanted o es)) refl refl
  where
    go : (b c : Bool) → is_up_to (wanted o es) at ≡ b → is_up_to at (wanted o es) ≡ c
        → (if not b then OutCase.Repeated else if not c then OutCase.Gap else OutCase.Next) ≡ OutCase.Next → at ≡ wanted o es
    go true true first second is = same_position at (wanted o es) first second
    go true false first second is = absurd cc
    go false c first second is = absurd cc

module _ (o : BankOpening) (es : List BankEntry) where
  -- what a step adds may follow
  abbrev AddsFollow : BankStep → Type 0
  AddsFollow s = (x : BankEntry) → s.adds ≡ Some x → BankFollows o es x

  strange_follows : AddsFollow strange
  strange_follows x adds = absurd cc

  -- an entry that is added and may follow
  one_follows : (own : BankEntry) → BankFollows o es own → (x : BankEntry) → Some own ≡ Some x → BankFollows o es x
  one_follows own follows x adds = let same : own ≡ x = cc in subst (λ (y : BankEntry). BankFollows o es y) same follows

  refused_follows : (found : Option Refused) → AddsFollow (refused_with found)
  refused_follows None x adds = absurd cc
  refused_follows (Some fault) x adds = absurd cc

  drafted_follows : (m : Content) (number : Result Imad Full) → next_imad o es ≡ number → AddsFollow (drafted_as m number)
  drafted_follows m (Err full) is x adds = absurd cc
  drafted_follows m (Ok imad) is x adds = one_follows (entry.Drafted imad (draft_text m imad)) is x adds

  draft_follows : (payload : List ℕ) (found : Option Content) → AddsFollow (draft_step o es payload found)
  draft_follows payload None = refused_follows (draft_fault payload)
  draft_follows payload (Some m) = drafted_follows m (next_imad o es) refl

  answered_follows : (t : Told) (found : AckCase) → ack_case es t.imad ≡ found → AddsFollow (answered_by t found)
  answered_follows t AckCase.Strange is x adds = absurd cc
  answered_follows t AckCase.Repeated is x adds = absurd cc
  answered_follows t AckCase.Fresh is x adds = one_follows (entry.Answered t.imad t.verdict) is x adds

  ack_follows : (told : Option Told) → AddsFollow (ack_step es told)
  ack_follows None = strange_follows
  ack_follows (Some t) = answered_follows t (ack_case es t.imad) refl

  received_follows : (g : Given) (found : OutCase) → MayGoOn g.at g.next → out_case o es g.at ≡ found → AddsFollow (received_by o es g found)
  received_follows g OutCase.Repeated goes is x adds = absurd cc
  received_follows g OutCase.Gap goes is x adds = absurd cc
  received_follows g OutCase.Next goes is x adds =
      one_follows (entry.Received g.at g.text g.next) (record { position = next_place o es g.at is; date = goes }) x adds

  output_follows : (found : Option Given) → ((g : Given) → found ≡ Some g → MayGoOn g.at g.next) → AddsFollow (output_step o es found)
  output_follows None goes = strange_follows
  output_follows (Some g) goes = received_follows g (out_case o es g.at) (goes g refl) refl

  on_line : (kind : FrameKind) (payload : List ℕ) → AddsFollow (step_on o es kind payload)
  on_line FrameKind.Draft payload = draft_follows payload (decoded Draft payload)
  on_line FrameKind.Tick payload = λ x adds. absurd cc
  on_line FrameKind.Ack payload = ack_follows (ack_told o payload)
  on_line FrameKind.Output payload = output_follows (output_given o payload) (output_goes o payload)
  on_line FrameKind.Submit payload = strange_follows
  on_line FrameKind.Retrieve payload = strange_follows
  on_line FrameKind.Roll payload = strange_follows

  any_follows : (b : Bool) (kind : FrameKind) (payload : List ℕ) → AddsFollow (if b then step_on o es kind payload else strange)
  any_follows true kind payload = on_line kind payload
  any_follows false kind payload = strange_follows

  pub step_follows : (f : Frame) (x : BankEntry) → (bank_step o es f).adds ≡ Some x → BankFollows o es x
  step_follows f = any_follows (bytes_eq f.endpoint o.endpoint) f.kind f.payload

  lawful_with : (adds : Option BankEntry) → ((x : BankEntry) → adds ≡ Some x → BankFollows o es x) → LawfulBank o es → LawfulBank o (adds_to adds es)
  lawful_with None follows lawful = lawful
  lawful_with (Some x) follows lawful = (follows x refl, lawful)

  pub step_lawful : (f : Frame) → LawfulBank o es → LawfulBank o (adds_to (bank_step o es f).adds es)
  step_lawful f lawful = lawful_with (bank_step o es f).adds (step_follows f) lawful
