-- How many drafts a reminder submits, and what becomes of a draft when no number is left.
use Rattle.std.proofs.Common.{◌≡◌, sym, ap, ◌∙◌, ℕ, ◌+◌, Bool, List, [], ◌∷◌, length, length-append, map, min, Option, Some}
use Rattle.std.specs.Prelude.{if◌then◌else◌, Result}
use Rattle.std.proofs.lemmas.List.{length-map, length-take}
use Rattle.faim_base.specs.Numbers.{greatest_seq}
use Rattle.faim_base.specs.declared.ids.Imad.{Imad}
use Rattle.faim_message.specs.declared.form.Form.TheVariants.{Draft}
use Rattle.faim_message.specs.Decoded.{decoded}
use Rattle.faim_message.specs.Spelling.{Content}
use Rattle.faim_model.proofs.Imads.{bytes_pass}
use Rattle.link_frames.specs.declared.frame.FrameKind.{FrameKind}
use Rattle.link_frames.specs.Frames.{Content as Frame}
use Rattle.bank_books.specs.declared.entries.BankEntry.{BankEntry}
use Rattle.bank_books.specs.declared.entries.BankOpening.{BankOpening}
use Rattle.bank_books.specs.declared.outcomes.BankOutcome.TheVariants.{Resent, SeqFull}
use Rattle.bank_books.specs.declared.outcomes.SeqFull.{SeqFull as Full}
use Rattle.bank_books.specs.Drafts.{Draft as Kept, open_drafts}
use Rattle.bank_books.specs.Inbox.{wanted}
use Rattle.bank_books.specs.Numbering.{drafts_in_cycle}
use Rattle.bank_books.proofs.Counted.{none_next}
use Rattle.bank_turns.specs.Drafting.{retrieve, submit}
use Rattle.bank_turns.specs.BankSteps.{BankStep, bank_step, draft_step, drafted_as, reminded, sending, step_on, strange}

-- a frame of the bank's own line is taken by its kind
pub own_line : (o : BankOpening) (es : List BankEntry) (f : Frame) (kind : FrameKind) → f.endpoint ≡ o.endpoint → f.kind ≡ kind
    → bank_step o es f ≡ step_on o es kind f.payload
own_line o es f kind own is =
    ap (λ (b : Bool). if b then step_on o es f.kind f.payload else strange) (bytes_pass f.endpoint o.endpoint own)
    ∙ ap (λ (k : FrameKind). step_on o es k f.payload) is

pub reminded_count : (o : BankOpening) (es : List BankEntry) (f : Frame) → f.endpoint ≡ o.endpoint → f.kind ≡ FrameKind.Tick
    → (bank_step o es f).outcome ≡ Resent (min 64 (length (open_drafts es)))
reminded_count o es f own is =
    ap (λ (s : BankStep). s.outcome) (own_line o es f FrameKind.Tick own is) ∙ ap (λ (n : ℕ). Resent n) (length-take 64 (open_drafts es))

-- a frame for each of them, and one that asks for the outputs
pub reminded_frames : (o : BankOpening) (es : List BankEntry) (f : Frame) → f.endpoint ≡ o.endpoint → f.kind ≡ FrameKind.Tick
    → length (bank_step o es f).sends ≡ min 64 (length (open_drafts es)) + 1
reminded_frames o es f own is =
    let again : List Frame = map (λ (d : Kept). submit d.imad d.text 80) (reminded es) in
    ap (λ (s : BankStep). length s.sends) (own_line o es f FrameKind.Tick own is)
    ∙ length-append again (retrieve o.endpoint (wanted o es) ∷ [])
    ∙ ap (λ (n : ℕ). n + 1) (length-map (reminded es) (λ (d : Kept). submit d.imad d.text 80) ∙ length-take 64 (open_drafts es))

pub full_keeps_none : (o : BankOpening) (es : List BankEntry) (f : Frame) (m : Content) → f.endpoint ≡ o.endpoint → f.kind ≡ FrameKind.Draft
    → decoded Draft f.payload ≡ Some m → drafts_in_cycle o es ≡ greatest_seq → bank_step o es f ≡ sending [] SeqFull
full_keeps_none o es f m own is found full =
    own_line o es f FrameKind.Draft own is
    ∙ ap (λ (read : Option Content). draft_step o es f.payload read) found
    ∙ ap (λ (number : Result Imad Full). drafted_as m number) (sym (none_next o es full))
