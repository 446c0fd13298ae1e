-- The fault for which a decoder refuses a draft.
use Rattle.std.proofs.Common.{◌≡◌, ◌≢◌, refl, sym, ap, subst, ⊎_elim, ℕ, List, Option, Some, None, Result, Ok, Err}
use Rattle.std.specs.Prelude.{IfOk}
use Rattle.faim_base.specs.declared.judgement.Refused.{Refused}
use Rattle.faim_base.specs.declared.judgement.Refused.TheVariants.{NoMemory}
use Rattle.faim_message.specs.declared.form.Form.TheVariants.{Draft}
use Rattle.faim_message.specs.Refusal.{Refuses}
use Rattle.faim_message.proofs.Decodings.{refused_undecoded}
use Rattle.faim_message.proofs.Reasons.{one_reason}
use Rattle.bank_turns.specs.DraftFaults.{draft_fault}
use Rattle.bank_turns.proofs.FaultLemmas.{draft_found, draft_why}
use Rattle.bank_texts.specs.declared.drafts.DraftRead.{DraftRead}
use Rattle.bank_texts.specs.declared.drafts.DraftRead.TheVariants as read
use Rattle.bank_texts.specs.Reads.{IsDraftRead}

-- it is the text's fault
fault_is : (text : List ℕ) (e : Refused) → Refuses Draft text e → e ≢ NoMemory → draft_fault text ≡ Some e
fault_is text e refuses other = go (draft_fault text) refl
  where
    go : (found : Option Refused) → draft_fault text ≡ found → found ≡ Some e
    go None is =
        let message = draft_found text is in
        let none = refused_undecoded Draft text e refuses other in
        absurd cc
    go (Some fault) is =
        let why = draft_why text fault is in
        ⊎_elim (λ (same : fault ≡ e). ap (λ (r : Refused). Some r) same)
        (λ more. ⊎_elim (λ memory. absurd (why.1 memory)) (λ memory. absurd (other memory)) more)
        (one_reason Draft text fault e why.0 refuses)

-- what a decoder refuses is refused with the text's fault
pub refused_read : {E : Type 0} (text : List ℕ) (fault : Refused) (r : Result DraftRead E) → Refuses Draft text fault
    → IfOk r (λ x. (x ≡ read.Refused fault) × (fault ≢ NoMemory)) → IfOk r (IsDraftRead text)
refused_read text fault (Ok x) refuses told =
    subst (λ (d : DraftRead). IsDraftRead text d) (sym told.0) (fault_is text fault refuses told.1, refused_undecoded Draft text fault refuses told.1)
refused_read text fault (Err e) refuses told = tt
