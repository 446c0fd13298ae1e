-- Worlds that aren't safe, one for each fact that is asked.
use Rattle.std.specs.Prelude.{◌≡◌, refl, ℕ, ◌==◌, true, false, List, [], ◌∷◌, codes, slice_index, Some, None}
use Rattle.std.specs.List.{Contains}
use Rattle.std.proofs.Common.{◌∙◌, ⊎_elim, ap, sym, arith}
use Rattle.std.proofs.lemmas.Bool.{eq-eqb}
use Rattle.faim_base.specs.declared.ids.Imad.{Imad}
use Rattle.faim_base.specs.declared.ids.OutPos.{OutPos}
use Rattle.faim_base.specs.declared.judgement.Verdict.TheVariants.{Taken}
use Rattle.host_ledger.specs.declared.entries.Entry.TheVariants.{Posted, Roll}
use Rattle.link_frames.specs.declared.frame.FrameKind.{FrameKind}
use Rattle.link_frames.specs.Frames.{Content as Frame}
use Rattle.bank_books.specs.declared.entries.BankEntry.TheVariants.{Drafted, Answered, Received}
use Rattle.bank_books.specs.Drafts.{Draft}
use Rattle.faim_model.specs.Frames.{IsAck, IsOutput, IsTurned}
use Rattle.faim_model.specs.Requests.{IsRetrieve}
use Rattle.faim_model.proofs.Members.{first_in, first_or_later, none_in}
use Rattle.world_model.specs.Worlds.{World, books_with, started}
use Rattle.world_model.specs.Effects.{on_line}
use Rattle.world_model.specs.Safety.{IsDraftOf, IsSubmission, Safe}
use Rattle.world_model.proofs.DayExamples.{acked, alpha_line, banks, beta_line, config, draft, drafted, handed_on, head, imad, morning, paid, text}

-- two numbers that differ
apart : (a b : ℕ) → (a == b) ≡ false → a ≡ b → ⊥
apart a b differ same = let both : true ≡ false = sym (eq-eqb a b same) ∙ differ in absurd cc

abbrev new : World
new = started config banks

-- a Roll back to an earlier date
rolled_back : Safe (record new { entries = Roll morning 8766 ∷ [] }) → ⊥
rolled_back s = let later = s.lawful.0.later in omega (arith, later)

-- a last record of one entry in a list without entries
recent_too_long : Safe (record new { recent = 1 }) → ⊥
recent_too_long s = let long = s.recent in omega (arith, long)

-- a clock that reads a moment after the calendar's last
clock_runs_over : Safe (record new { moment = 4_207_593_600 }) → ⊥
clock_runs_over s = let late = s.values.clock in omega (arith, late)

-- a bank that begins with its second draft
draft_left_out : Safe (record new { books = books_with alpha_line (Drafted (record imad { seq = 2 }) text ∷ []) new.books }) → ⊥
draft_left_out s =
    let own = (s.banks alpha_line (first_in alpha_line (beta_line ∷ []))).0.follows in
    let same : record imad { seq = 1 } ≡ record imad { seq = 2 } = cc in
    apart 1 2 refl (ap (λ (i : Imad). i.seq) same)

-- a message that was posted from a bank that has no draft of it
posted_without_draft : Safe (record new { entries = paid ∷ [] }) → ⊥
posted_without_draft s =
    let own = s.bodies head text false morning (Taken beta_line 1) (first_in paid []) (first_in alpha_line (beta_line ∷ [])) in none_in own.draft own.there

-- the draft is one with the same text
not_another_text : IsDraftOf (Drafted imad text ∷ []) imad draft → ⊥
not_another_text own =
    ⊎_elim
    (λ (first : own.draft ≡ record { place = 0; imad = imad; text = text }).
    apart 50 49 refl (ap (λ (t : List ℕ). slice_index t 29) (sym own.is ∙ ap (λ (d : Draft). d.text) first)))
    (λ (none : Contains [] own.draft). none_in own.draft none) (first_or_later (record { place = 0; imad = imad; text = text }) own.draft [] own.there)

-- an acknowledgement of a payment that isn't there
sent_before_posted : Safe (record new { from_host = acked (codes " ") ∷ [] }) → ⊥
sent_before_posted s =
    ⊎_elim (λ (a : IsAck config [] (acked (codes " "))). let none : None ≡ Some (acked (codes " ")) = a.sent in absurd cc)
    (λ more. ⊎_elim (λ (p : IsOutput config [] (acked (codes " "))). none_in p.item p.there)
    (λ (t : IsTurned config (acked (codes " "))). apart 51 50 refl (ap (λ (f : Frame). slice_index f.payload 10) t.sent)) more)
    (s.covered (acked (codes " ")) (first_in (acked (codes " ")) []))

-- a submission of a bank that has no draft, and one of an endpoint without a bank
submitted_before_drafted : Safe (record new { to_host = on_line FrameKind.Submit alpha_line text ∷ [] }) → ⊥
submitted_before_drafted s =
    ⊎_elim (λ (own : IsSubmission [] (on_line FrameKind.Submit alpha_line text)). none_in own.draft own.there)
    (λ (asks : (at : OutPos) × IsRetrieve (on_line FrameKind.Submit alpha_line text) at). let other = asks.1.kind in absurd cc)
    (s.submits (on_line FrameKind.Submit alpha_line text) (first_in (on_line FrameKind.Submit alpha_line text) [])).is

-- a bank that keeps a verdict that the host didn't give
verdict_of_its_own : Safe (record drafted { books = books_with alpha_line (Answered imad (Taken beta_line 1) ∷ Drafted imad text ∷ []) drafted.books }) → ⊥
verdict_of_its_own s =
    let own = s.verdicts alpha_line (first_in alpha_line (beta_line ∷ [])) imad (Taken beta_line 1) (first_in (Answered imad (Taken beta_line 1)) (Drafted imad text ∷ [])) in
    none_in (Posted own.head own.body own.resent own.moment (Taken beta_line 1)) own.there

-- a bank that keeps an output that the host doesn't put out
output_of_its_own : Safe (record new { books = books_with alpha_line (Received (record { date = 8767; seq = 1 }) (handed_on (codes " ")) None ∷ []) new.books }) → ⊥
output_of_its_own s = let own = s.inboxes alpha_line (first_in alpha_line (beta_line ∷ [])) in absurd cc
