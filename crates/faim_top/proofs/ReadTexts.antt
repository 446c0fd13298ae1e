-- What was read for an opening is read as all that there was.
use Rattle.std.proofs.Common.{◌≡◌, ◌⊎◌, inl, inr, ℕ, ◌+◌, List, ◌++◌, length, length-append, append-nil, Option, Some, None, sym, ◌∙◌, ap, subst, arith}
use Rattle.std.specs.Prelude.{Result, Ok, Err, IfSome}
use Rattle.std.specs.Io.KnownBytes.{Consumes, IsAtEnd}
use Rattle.world_text.specs.declared.script.ScriptFault.{ScriptFault}
use Rattle.world_text.specs.declared.script.ScriptRefused.{ScriptRefused}
use Rattle.world_text.specs.declared.script.ScriptRefused.TheVariants as refusals
use Rattle.world_text.specs.Reading.{TextFails}
use Rattle.world_text.specs.Grammar.{size_limit}
use Rattle.faim_top.specs.Inits.{IsTextOf, IsTextWith, Made}
use Rattle.faim_top.specs.LongTexts.{LongTextsAreNone}

-- the text that was read, and all that there was, are one opening or none
all_read : {O E : Type 0} (made : Made O E) → LongTextsAreNone made → (left rest : Option (List ℕ)) (text : List ℕ) (answer : Result O ScriptFault) → Consumes left rest text
    → IsAtEnd rest ⊎ (length text ≡ size_limit + 1) → made.opening_of text ≡ answer → IfSome left (λ whole. made.opening_of whole ≡ answer)
all_read made long_texts None rest text answer taken read is = tt
all_read made long_texts (Some xs) None text answer taken read is = absurd taken
all_read made long_texts (Some xs) (Some ys) text answer taken (inl end) is =
    ap made.opening_of (taken ∙ ap (λ (l : List ℕ). text ++ l) end ∙ append-nil text) ∙ is
all_read made long_texts (Some xs) (Some ys) text answer taken (inr long) is =
    ap made.opening_of taken
    ∙ long_texts (text ++ ys) (omega (arith, long, length-append text ys))
    ∙ sym (long_texts text (omega (arith, long)))
    ∙ is

pub opened : {O E : Type 0} (made : Made O E) → LongTextsAreNone made → (left rest : Option (List ℕ)) (text : List ℕ) (o : O) → Consumes left rest text
    → IsAtEnd rest ⊎ (length text ≡ size_limit + 1) → made.opening_of text ≡ Ok o → IsTextOf made left o × IsAtEnd rest
opened made long_texts left rest text o taken read is = (all_read made long_texts left rest text (Ok o) taken read is, at_end read)
  where
    at_end : IsAtEnd rest ⊎ (length text ≡ size_limit + 1) → IsAtEnd rest
    at_end (inl end) = end
    at_end (inr long) = absurd (let wrong = long_texts text (omega (arith, long)) in cc)

pub refused_text : {O E : Type 0} (made : Made O E) → LongTextsAreNone made → (left rest : Option (List ℕ)) (text : List ℕ) (why : ScriptRefused) (fault : ScriptFault) → why ≡ refusals.Fault fault
    → Consumes left rest text → IsAtEnd rest ⊎ (length text ≡ size_limit + 1) → TextFails why (made.opening_of text) → IsTextWith made left fault
refused_text made long_texts left rest text why fault is taken read fails =
    all_read made long_texts left rest text (Err fault) taken read (subst (λ (e : ScriptRefused). TextFails e (made.opening_of text)) is fails)
