use Rattle.std.proofs.Common.{◌∙◌, ap, ℕ, List, Some}
use Rattle.bank_turns.specs.OutputTexts.{Given}
use Rattle.bank_texts.proofs.Texts.{blank_text}
use Rattle.bank_texts.proofs.outputs.given_in.Goals as goal

pub returns-in_ok-text-in-Some : goal.returns-in_ok-text-in-Some
returns-in_ok-text-in-Some c =
    let gives : List ℕ → Given = λ text. record { at = c.in-Some.field-0.at; text = text; next = c.in-Some.field-0.next } in
    ap (λ (text : List ℕ). Some (gives text)) (c.in_ok-text-in-Some.ensures ∙ blank_text c.args.payload.now c.args.message.now c.requires.read)
    ∙ c.in-Some.ensures
