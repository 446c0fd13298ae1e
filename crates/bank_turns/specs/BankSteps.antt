-- What a bank does with a frame (docs/FORMATS.md, "What a bank takes").
use Rattle.std.specs.Prelude.{ℕ, List, [], ◌∷◌, ◌++◌, length, take, map, bytes_eq, if◌then◌else◌, Option, Some, None, Result, Ok, Err}
use Rattle.faim_base.specs.declared.ids.Imad.{Imad}
use Rattle.faim_base.specs.declared.judgement.Refused.{Refused}
use Rattle.faim_message.specs.declared.form.Form.TheVariants.{Draft}
use Rattle.faim_message.specs.Decoded.{decoded}
use Rattle.faim_message.specs.Spelling.{Content}
use Rattle.link_frames.specs.declared.frame.FrameKind.{FrameKind}
use Rattle.link_frames.specs.Frames.{Content as Frame}
use Rattle.bank_books.specs.declared.entries.BankEntry.{BankEntry}
use Rattle.bank_books.specs.declared.entries.BankEntry.TheVariants as entry
use Rattle.bank_books.specs.declared.entries.BankOpening.{BankOpening}
use Rattle.bank_books.specs.declared.outcomes.AckCase.{AckCase}
use Rattle.bank_books.specs.declared.outcomes.OutCase.{OutCase}
use Rattle.bank_books.specs.declared.outcomes.SeqFull.{SeqFull as Full}
use Rattle.bank_books.specs.declared.outcomes.BankOutcome.{BankOutcome}
use Rattle.bank_books.specs.declared.outcomes.BankOutcome.TheVariants.{Drafted, DraftRefused, SeqFull, Answered, Repeated, Received, Gap, Strange, Resent}
use Rattle.bank_books.specs.Drafts.{Draft as Kept, ack_case, open_drafts}
use Rattle.bank_books.specs.Inbox.{out_case, wanted}
use Rattle.bank_books.specs.Numbering.{next_imad}
use Rattle.bank_turns.specs.DraftFaults.{draft_fault}
use Rattle.bank_turns.specs.Drafting.{draft_text, retrieve, submit}
use Rattle.bank_turns.specs.AckTexts.{Told, ack_told}
use Rattle.bank_turns.specs.OutputTexts.{Given, output_given}

-- an entry or none, the frames in their order, and the outcome
pub record BankStep : Type 0 where
  pub adds : Option BankEntry
  pub sends : List Frame
  pub outcome : BankOutcome

-- the entries after a step
abbrev pub adds_to : Option BankEntry → List BankEntry → List BankEntry
adds_to None es = es
adds_to (Some x) es = x ∷ es

-- nothing is added, and these frames are sent
abbrev pub sending : List Frame → BankOutcome → BankStep
sending frames outcome = record { adds = None; sends = frames; outcome = outcome }

-- an entry is added, and these frames are sent
abbrev pub adding : BankEntry → List Frame → BankOutcome → BankStep
adding x frames outcome = record { adds = Some x; sends = frames; outcome = outcome }

-- the frame is none that a bank takes
abbrev pub strange : BankStep
strange = sending [] Strange

-- a draft is refused with its fault
abbrev pub refused_with : Option Refused → BankStep
refused_with None = strange
refused_with (Some fault) = sending [] (DraftRefused fault)

-- a draft gets the next number, where one is left, is kept and is submitted
abbrev pub drafted_as : Content → Result Imad Full → BankStep
drafted_as m (Err full) = sending [] SeqFull
drafted_as m (Ok imad) = adding (entry.Drafted imad (draft_text m imad)) (submit imad (draft_text m imad) 32 ∷ []) (Drafted imad)

-- a text to draft
abbrev pub draft_step : BankOpening → List BankEntry → List ℕ → Option Content → BankStep
draft_step o es payload None = refused_with (draft_fault payload)
draft_step o es payload (Some m) = drafted_as m (next_imad o es)

-- the drafts that a reminder submits again: the oldest 64 for which no verdict came
abbrev pub reminded : List BankEntry → List Kept
reminded es = take 64 (open_drafts es)

-- a reminder: these drafts are submitted again, marked P, and the outputs from the wanted one on are asked for
abbrev pub tick_step : BankOpening → List BankEntry → BankStep
tick_step o es =
    sending (map (λ (d : Kept). submit d.imad d.text 80) (reminded es) ++ retrieve o.endpoint (wanted o es) ∷ [])
    (Resent (length (reminded es)))

-- an acknowledgement by its case: the first one of a draft is kept
abbrev pub answered_by : Told → AckCase → BankStep
answered_by t AckCase.Strange = strange
answered_by t AckCase.Repeated = sending [] Repeated
answered_by t AckCase.Fresh = adding (entry.Answered t.imad t.verdict) [] (Answered t.imad)

abbrev pub ack_step : List BankEntry → Option Told → BankStep
ack_step es None = strange
ack_step es (Some t) = answered_by t (ack_case es t.imad)

-- an output by its case: the wanted one is kept, and where it isn't there yet it is asked for
abbrev pub received_by : BankOpening → List BankEntry → Given → OutCase → BankStep
received_by o es g OutCase.Repeated = sending [] Repeated
received_by o es g OutCase.Gap = sending (retrieve o.endpoint (wanted o es) ∷ []) (Gap (wanted o es))
received_by o es g OutCase.Next = adding (entry.Received g.at g.text g.next) [] (Received g.at)

abbrev pub output_step : BankOpening → List BankEntry → Option Given → BankStep
output_step o es None = strange
output_step o es (Some g) = received_by o es g (out_case o es g.at)

-- a frame of each kind on the bank's own line
abbrev pub step_on : BankOpening → List BankEntry → FrameKind → List ℕ → BankStep
step_on o es FrameKind.Draft payload = draft_step o es payload (decoded Draft payload)
step_on o es FrameKind.Tick payload = tick_step o es
step_on o es FrameKind.Ack payload = ack_step es (ack_told o payload)
step_on o es FrameKind.Output payload = output_step o es (output_given o payload)
step_on o es kind payload = strange

-- the bank's step over a frame; one of another line is strange
abbrev pub bank_step : BankOpening → List BankEntry → Frame → BankStep
bank_step o es f = if bytes_eq f.endpoint o.endpoint then step_on o es f.kind f.payload else strange
