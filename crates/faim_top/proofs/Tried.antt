-- What is told of a message that fails an edit first, or none.
use Rattle.std.proofs.Common.{◌≡◌, ◌≢◌, ◌⊎◌, ◌∙◌, ℕ, List, Option, Some, None, Ok, Err, inl, inr, ap, sym, subst}
use Rattle.std.specs.Prelude.{Result, IfOk, IfSome}
use Rattle.std.specs.Io.KnownBytes.{IsAtEnd}
use Rattle.faim_base.specs.declared.judgement.Refused as refusals
use Rattle.faim_base.specs.declared.judgement.Refused.TheVariants.{Byte, NoMemory}
use Rattle.faim_message.specs.declared.form.Form.TheVariants.{Input}
use Rattle.faim_message.specs.Spelling.{Content, Spells, message_spelling}
use Rattle.faim_message.specs.Refusal.{Refuses}
use Rattle.faim_top.specs.declared.query.Query.TheVariants.{Check}
use Rattle.faim_top.specs.declared.status.Status.{Status}
use Rattle.faim_top.specs.declared.status.Status.TheVariants.{Done, Refused}
use Rattle.faim_top.specs.declared.status.Reason.{Reason}
use Rattle.faim_top.specs.declared.status.Reason.TheVariants as reasons
use Rattle.faim_top.specs.Checks.{failed_edit, message_status, message_text}
use Rattle.world_text.specs.Report.{refusal_line}
use Rattle.faim_top.specs.Ends.{Checked}
use Rattle.faim_top.specs.Seen.{Seen}
use Rattle.faim_top.specs.Sources.{AnswersSource, RefusesSource}

-- an answer's status and bytes are those of this edit
abbrev pub Tells : {A E : Type 0} → Result (A × Status) E → (A → List ℕ) → List ℕ → Option ℕ → Type 0
Tells r bytes spelled failed = IfOk r (λ a. (a.1 ≡ message_status failed) × (bytes a.0 ≡ message_text failed spelled))

-- the edit that was found is the one that the message fails
pub told_of : {A E : Type 0} (r : Result (A × Status) E) (bytes : A → List ℕ) (spelled : List ℕ) (found failed : Option ℕ)
    → found ≡ failed → Tells r bytes spelled found → Tells r bytes spelled failed
told_of r bytes spelled found failed same tells = subst (Tells r bytes spelled) same tells

done_or_refused : (failed : Option ℕ) (status : Status) (at_end : Type 0) → at_end → status ≡ message_status failed → ((status ≡ Done) × at_end) ⊎ ((why : Reason) × (status ≡ Refused why))
done_or_refused None status at_end end e = inl (e, end)
done_or_refused (Some number) status at_end end e = inr (reasons.Edit number, e)

message_left : (left : Option (List ℕ)) (m : Content) (status : Status) (bytes : List ℕ) → m.form ≡ Input → IfSome left (Spells m)
    → status ≡ message_status (failed_edit m) → bytes ≡ message_text (failed_edit m) (message_spelling m) → IfSome left (λ text. Checked text status bytes)
message_left None m status bytes kind spells st bs = tt
message_left (Some text) m status bytes kind spells st bs =
    inl (record { message = m; kind = kind; spells = spells }, st, bs ∙ ap (message_text (failed_edit m)) (sym spells.spelled))

-- and that is the answer to a source that had the message and no more
pub checked_of : {A E : Type 0} (r : Result (A × Status) E) (bytes : A → List ℕ) (left : Seen (Option (List ℕ))) (m : Content) → m.form ≡ Input → IfSome left.before (Spells m) → IsAtEnd left.after
    → Tells r bytes (message_spelling m) (failed_edit m) → IfOk r (λ a. AnswersSource Check left a.1 (bytes a.0))
checked_of (Ok a) bytes left m kind spells end tells = record {
  whole = message_left left.before m a.1 (bytes a.0) kind spells tells.0 tells.1;
  proper = done_or_refused (failed_edit m) a.1 (IsAtEnd left.after) end tells.0;
}
checked_of (Err e) bytes left m kind spells end tells = tt

refused_left : (left : Option (List ℕ)) (why : refusals.Refused) (status : Status) (bytes : List ℕ) → IfSome left (λ text. Refuses Input text why) → why ≢ NoMemory
    → status ≡ Refused (reasons.Text why) → bytes ≡ refusal_line why → IfSome left (λ text. Checked text status bytes)
refused_left None why status bytes refuses judged st bs = tt
refused_left (Some text) why status bytes refuses judged st bs = inr (why, record { refuses = refuses; judged = judged }, st, bs)

-- the answer to a source whose bytes are refused
pub refused_of : (left : Seen (Option (List ℕ))) (why : refusals.Refused) (status : Status) (bytes : List ℕ) → RefusesSource left why → why ≢ NoMemory
    → status ≡ Refused (reasons.Text why) → bytes ≡ refusal_line why → AnswersSource Check left status bytes
refused_of left why status bytes refuses judged st bs = record {
  whole = refused_left left.before why status bytes refuses judged st bs;
  proper = inr (reasons.Text why, st);
}
