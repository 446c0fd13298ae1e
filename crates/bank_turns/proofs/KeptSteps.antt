-- What a bank's step adds keeps what it is to keep.
use Rattle.std.proofs.Common.{◌≡◌, ◌≢◌, ⊎_elim, refl, sym, subst, ℕ, ◌≤◌, Bool, true, false, List, [], ◌∷◌, length, Option, Some, None, arith}
use Rattle.std.specs.Prelude.{bytes_eq, if◌then◌else◌, Result, Ok, Err}
use Rattle.std.specs.List.{Contains}
use Rattle.faim_base.specs.declared.ids.Imad.{Imad}
use Rattle.faim_base.specs.declared.judgement.Refused.{Refused}
use Rattle.faim_base.specs.Ids.{imad_text}
use Rattle.faim_base.specs.Limits.{longest_message}
use Rattle.faim_base.specs.Numbers.{IsDay, IsSeq}
use Rattle.faim_base.specs.Ranges.{IsEndpoint, IsImad}
use Rattle.faim_message.specs.declared.form.Form.TheVariants.{Draft}
use Rattle.faim_message.specs.Decoded.{decoded}
use Rattle.faim_message.specs.Numbering.{numbered}
use Rattle.faim_message.specs.Spelling.{Content, marked_with}
use Rattle.link_frames.specs.declared.frame.FrameKind.{FrameKind}
use Rattle.link_frames.specs.Frames.{Content as Frame, IsFrame}
use Rattle.entry_codec.specs.BankRanges.{IsEntryOf}
use Rattle.bank_books.specs.declared.entries.BankEntry.{BankEntry}
use Rattle.bank_books.specs.declared.entries.BankEntry.TheVariants as entry
use Rattle.bank_books.specs.declared.entries.BankOpening.{BankOpening}
use Rattle.bank_books.specs.declared.outcomes.AckCase.{AckCase}
use Rattle.bank_books.specs.declared.outcomes.OutCase.{OutCase}
use Rattle.bank_books.specs.declared.outcomes.SeqFull.{SeqFull as Full}
use Rattle.bank_books.specs.Drafts.{Draft as Kept, ack_case, drafts}
use Rattle.bank_books.specs.Inbox.{bank_cycle, out_case}
use Rattle.bank_books.specs.Lawful.{LawfulBank}
use Rattle.bank_books.specs.Numbering.{drafts_in_cycle, next_imad}
use Rattle.bank_books.specs.Openings.{IsBankOpening}
use Rattle.bank_books.proofs.Counted.{drafts_fit, is_next}
use Rattle.bank_books.proofs.Members.{before_or_last, none_in}
use Rattle.bank_turns.specs.DraftFaults.{draft_fault}
use Rattle.bank_turns.specs.Drafting.{draft_text}
use Rattle.bank_turns.specs.AckTexts.{Told, ack_told}
use Rattle.bank_turns.specs.OutputTexts.{Given, output_given}
use Rattle.bank_turns.specs.BankSteps.{BankStep, ack_step, adds_to, answered_by, bank_step, draft_step, drafted_as, output_step, received_by, refused_with, step_on, strange}
use Rattle.bank_turns.specs.KeptTexts.{BankMayFollow, KeepsDraft, Keeps, KeptBank}
use Rattle.bank_turns.proofs.DraftTexts.{draft_keeps, spelling_fits}
use Rattle.bank_turns.proofs.Following.{step_follows}
use Rattle.bank_turns.proofs.GivenTexts.{output_keeps, output_next}
use Rattle.bank_turns.proofs.Sends.{numbered_spells, step_fits}
use Rattle.bank_turns.proofs.ToldRanges.{ToldOf, ack_ranged}

pub kept_lawful : (o : BankOpening) (es : List BankEntry) → KeptBank o es → LawfulBank o es
kept_lawful o [] kept = tt
kept_lawful o (x ∷ older) kept = (kept.0.follows, kept_lawful o older kept.1)

-- the present cycle date is a day
pub cycle_is_day : (o : BankOpening) (es : List BankEntry) → IsDay o.date → LawfulBank o es → IsDay (bank_cycle o es)
cycle_is_day o [] day lawful = day
cycle_is_day o (entry.Drafted imad text ∷ older) day lawful = cycle_is_day o older day lawful.1
cycle_is_day o (entry.Answered imad verdict ∷ older) day lawful = cycle_is_day o older day lawful.1
cycle_is_day o (entry.Received at text (Some date) ∷ older) day lawful = lawful.0.date.1
cycle_is_day o (entry.Received at text None ∷ older) day lawful = cycle_is_day o older day lawful.1

-- what is kept of a draft
record DraftIs (d : Kept) : Type 0 where
  short : length d.text ≤ longest_message
  keeps : KeepsDraft d.imad d.text

draft_is : (o : BankOpening) (es : List BankEntry) (d : Kept) → KeptBank o es → Contains (drafts es) d → DraftIs d
draft_is o [] d kept there = absurd (none_in d there)
draft_is o (entry.Drafted imad text ∷ older) d kept there =
    let new : Kept = record { place = length (drafts older); imad = imad; text = text } in
    ⊎_elim (λ (old : Contains (drafts older) d). draft_is o older d kept.1 old)
    (λ (last : d ≡ new). subst DraftIs (sym last) (record { short = kept.0.spelled.0.1.1; keeps = kept.0.keeps }))
    (before_or_last new d (drafts older) there)
draft_is o (entry.Answered imad verdict ∷ older) d kept there = draft_is o older d kept.1 there
draft_is o (entry.Received at text next ∷ older) d kept there = draft_is o older d kept.1 there

pub drafts_short : (o : BankOpening) (es : List BankEntry) (d : Kept) → KeptBank o es → Contains (drafts es) d
    → length d.text ≤ longest_message
drafts_short o es d kept there = (draft_is o es d kept there).short

pub drafts_keep : (o : BankOpening) (es : List BankEntry) (d : Kept) → KeptBank o es → Contains (drafts es) d → KeepsDraft d.imad d.text
drafts_keep o es d kept there = (draft_is o es d kept there).keeps

pub kept_fits : (o : BankOpening) (es : List BankEntry) (f g : Frame) → IsBankOpening o → KeptBank o es
    → Contains (bank_step o es f).sends g → IsFrame g
kept_fits o es f g opening kept there =
    step_fits o es opening.endpoint (kept_lawful o es kept) (λ d drafted. drafts_short o es d kept drafted) f g there

-- an entry that is added has a spelling, and keeps what it is to keep
record Holds (o : BankOpening) (x : BankEntry) : Type 0 where
  spelled : IsEntryOf o.endpoint x
  keeps : Keeps o x

module _ (o : BankOpening) (es : List BankEntry) (opening : IsBankOpening o) (lawful : LawfulBank o es) where
  -- the next IMAD is one, of the bank's own endpoint
  next_is : (imad : Imad) → next_imad o es ≡ Ok imad → IsImad imad × (imad.source ≡ o.endpoint)
  next_is imad next =
      let own = is_next o es imad next in
      let few : drafts_in_cycle o es ≤ 999_999 = drafts_fit o es lawful in
      let room : drafts_in_cycle o es ≢ 999_999 = own.not_full in
      let more : drafts_in_cycle o es ≤ 999_998 = omega (arith, few, room) in (
        record {
          day = subst IsDay (sym own.date) (cycle_is_day o es opening.date lawful);
          sender = subst IsEndpoint (sym own.source) opening.endpoint;
          number = subst IsSeq (sym own.number) (omega arith, omega (arith, more));
        },
        own.source,
      )

  -- what a step adds holds
  abbrev AddsHold : BankStep → Type 0
  AddsHold s = (x : BankEntry) → s.adds ≡ Some x → Holds o x

  strange_holds : AddsHold strange
  strange_holds x adds = absurd cc

  one_holds : (own : BankEntry) → Holds o own → (x : BankEntry) → Some own ≡ Some x → Holds o x
  one_holds own holds x adds = let same : own ≡ x = cc in subst (Holds o) same holds

  refused_holds : (found : Option Refused) → AddsHold (refused_with found)
  refused_holds None x adds = absurd cc
  refused_holds (Some fault) x adds = absurd cc

  drafted_holds : (payload : List ℕ) (m : Content) → decoded Draft payload ≡ Some m
      → (number : Result Imad Full) → next_imad o es ≡ number → AddsHold (drafted_as m number)
  drafted_holds payload m found (Err full) is x adds = absurd cc
  drafted_holds payload m found (Ok imad) is x adds =
      let own = next_is imad is in
      let body =
      spelling_fits (marked_with 32 (numbered m (imad_text imad))) (draft_text m imad)
      (numbered_spells payload m imad found own.0.sender) in
      one_holds (entry.Drafted imad (draft_text m imad))
      (record { spelled = ((own.0, body), own.1); keeps = draft_keeps payload m imad found own.0 }) x adds

  draft_holds : (payload : List ℕ) (found : Option Content) → decoded Draft payload ≡ found → AddsHold (draft_step o es payload found)
  draft_holds payload None is = refused_holds (draft_fault payload)
  draft_holds payload (Some m) is = drafted_holds payload m is (next_imad o es) refl

  answered_holds : (t : Told) (found : AckCase) → ToldOf o t → AddsHold (answered_by t found)
  answered_holds t AckCase.Strange told x adds = absurd cc
  answered_holds t AckCase.Repeated told x adds = absurd cc
  answered_holds t AckCase.Fresh told x adds =
      one_holds (entry.Answered t.imad t.verdict) (record { spelled = ((told.imad, told.verdict), told.own); keeps = tt }) x adds

  ack_holds : (told : Option Told) → ((t : Told) → told ≡ Some t → ToldOf o t) → AddsHold (ack_step es told)
  ack_holds None ranged = strange_holds
  ack_holds (Some t) ranged = answered_holds t (ack_case es t.imad) (ranged t refl)

  received_holds : (payload : List ℕ) (g : Given) (found : OutCase) → output_given o payload ≡ Some g → AddsHold (received_by o es g found)
  received_holds payload g OutCase.Repeated given x adds = absurd cc
  received_holds payload g OutCase.Gap given x adds = absurd cc
  received_holds payload g OutCase.Next given x adds =
      let kept = (output_keeps o payload g given).2 in
      one_holds (entry.Received g.at g.text g.next)
      (record { spelled = ((kept.position, output_next o payload g given, kept.body), tt); keeps = kept.again }) x adds

  output_holds : (payload : List ℕ) (found : Option Given) → output_given o payload ≡ found → AddsHold (output_step o es found)
  output_holds payload None is = strange_holds
  output_holds payload (Some g) is = received_holds payload g (out_case o es g.at) is

  on_line : (kind : FrameKind) (payload : List ℕ) → AddsHold (step_on o es kind payload)
  on_line FrameKind.Draft payload = draft_holds payload (decoded Draft payload) refl
  on_line FrameKind.Tick payload = λ x adds. absurd cc
  on_line FrameKind.Ack payload = ack_holds (ack_told o payload) (ack_ranged o payload)
  on_line FrameKind.Output payload = output_holds payload (output_given o payload) refl
  on_line FrameKind.Submit payload = strange_holds
  on_line FrameKind.Retrieve payload = strange_holds
  on_line FrameKind.Roll payload = strange_holds

  any_holds : (b : Bool) (kind : FrameKind) (payload : List ℕ) → AddsHold (if b then step_on o es kind payload else strange)
  any_holds true kind payload = on_line kind payload
  any_holds false kind payload = strange_holds

  step_holds : (f : Frame) → AddsHold (bank_step o es f)
  step_holds f = any_holds (bytes_eq f.endpoint o.endpoint) f.kind f.payload

pub step_may_follow : (o : BankOpening) (es : List BankEntry) (f : Frame) (x : BankEntry) → IsBankOpening o → KeptBank o es
    → (bank_step o es f).adds ≡ Some x → BankMayFollow o es x
step_may_follow o es f x opening kept adds =
    let holds = step_holds o es opening (kept_lawful o es kept) f x adds in
    record { spelled = holds.spelled; follows = step_follows o es f x adds; keeps = holds.keeps }

kept_with : (o : BankOpening) (es : List BankEntry) (adds : Option BankEntry) → ((x : BankEntry) → adds ≡ Some x → BankMayFollow o es x)
    → KeptBank o es → KeptBank o (adds_to adds es)
kept_with o es None follows kept = kept
kept_with o es (Some x) follows kept = (follows x refl, kept)

pub step_kept : (o : BankOpening) (es : List BankEntry) (f : Frame) → IsBankOpening o → KeptBank o es
    → KeptBank o (adds_to (bank_step o es f).adds es)
step_kept o es f opening kept = kept_with o es (bank_step o es f).adds (λ x adds. step_may_follow o es f x opening kept adds) kept
