-- The answer to all that a source had, where a query reads a script or nothing.
use Rattle.std.proofs.Common.{◌≡◌, ◌⊎◌, inl, inr, ℕ, ◌+◌, List, [], ◌++◌, length, length-append, append-nil, Option, Some, None, sym, ◌∙◌, ap, subst, arith}
use Rattle.std.specs.Prelude.{Result, Ok, Err, IfSome}
use Rattle.std.specs.Io.KnownBytes.{Consumes, IsAtEnd}
use Rattle.std.proofs.KnownBytes.{Consumes-nil}
use Rattle.faim_top.specs.declared.query.Query.TheVariants.{Table, Replay}
use Rattle.world_text.specs.declared.script.Script.{Script}
use Rattle.world_text.specs.declared.script.ScriptFault.{ScriptFault}
use Rattle.world_text.specs.declared.script.Why.TheVariants.{Size}
use Rattle.faim_top.specs.declared.status.Status.{Status}
use Rattle.faim_top.specs.declared.status.Status.TheVariants.{Done, Refused}
use Rattle.faim_top.specs.declared.status.Reason.{Reason}
use Rattle.faim_top.specs.declared.status.Reason.TheVariants as reasons
use Rattle.world_text.specs.Grammar.{script_of, size_limit}
use Rattle.world_text.proofs.SizeLimits.{too_long}
use Rattle.faim_top.specs.Seen.{Seen, LosesAtMost}
use Rattle.faim_top.specs.Sources.{AnswersSource}
use Rattle.faim_top.specs.Ends.{Answers, answer_text, answer_status}

-- nothing is taken
pub takes_none : (left : Option (List ℕ)) (most : ℕ) → LosesAtMost most (record { before = left; after = left })
takes_none left most = record { piece = []; taken = Consumes-nil left; within = omega arith }

-- a table is answered whatever the source has
pub tabled : (left : Seen (Option (List ℕ))) (status : Status) (bytes : List ℕ) → Answers Table [] status bytes → AnswersSource Table left status bytes
tabled left status bytes h = record {
  whole = h;
  proper = inl (h.0, tt);
}

answered_left : (left rest : Option (List ℕ)) (text : List ℕ) (status : Status) (bytes : List ℕ) → Consumes left rest text → IsAtEnd rest ⊎ (length text ≡ size_limit + 1)
    → Answers Replay text status bytes → IfSome left (λ whole. Answers Replay whole status bytes)
answered_left None rest text status bytes taken read h = tt
answered_left (Some xs) None text status bytes taken read h = absurd taken
answered_left (Some xs) (Some ys) text status bytes taken (inl end) h =
    let P : List ℕ → Type 0 = λ t. Answers Replay t status bytes in
    subst P (sym (taken ∙ ap (λ (l : List ℕ). text ++ l) end ∙ append-nil text)) h
answered_left (Some xs) (Some ys) text status bytes taken (inr long) h =
    let P : List ℕ → Type 0 = λ t. Answers Replay t status bytes in
    let same : script_of text ≡ script_of (text ++ ys) = too_long text (omega (arith, long)) ∙ sym (too_long (text ++ ys) (omega (arith, long, length-append text ys))) in
    subst P (sym taken) (h.0 ∙ ap answer_status same, h.1 ∙ ap answer_text same)

-- what is done was read to its end
at_end_or_refused : (read : Result Script ScriptFault) (at_end : Type 0) (long : Type 0) (status : Status) → status ≡ answer_status read → at_end ⊎ long
    → (long → read ≡ Err (record { line = 0; why = Size })) → ((status ≡ Done) × at_end) ⊎ ((why : Reason) × (status ≡ Refused why))
at_end_or_refused (Ok s) at_end long status e (inl end) refused = inl (e, end)
at_end_or_refused (Ok s) at_end long status e (inr l) refused = absurd (let wrong = refused l in cc)
at_end_or_refused (Err f) at_end long status e whole refused = inr (reasons.Script f, e)

-- what was read for a script is answered as all that there was
pub replayed : (left rest : Option (List ℕ)) (text : List ℕ) (status : Status) (bytes : List ℕ) → Consumes left rest text → IsAtEnd rest ⊎ (length text ≡ size_limit + 1)
    → Answers Replay text status bytes → AnswersSource Replay (record { before = left; after = rest }) status bytes
replayed left rest text status bytes taken read h = record {
  whole = answered_left left rest text status bytes taken read h;
  proper = at_end_or_refused (script_of text) (IsAtEnd rest) (length text ≡ size_limit + 1) status h.0 read (λ long. too_long text (omega (arith, long)));
}
