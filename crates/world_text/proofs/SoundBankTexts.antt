-- The opening of every text of a bank is sound.
use Rattle.std.proofs.Common.{◌≡◌, ℕ, List, [], ◌∷◌, subst}
use Rattle.std.specs.Prelude.{Ok, bytes_eq, codes}
use Rattle.faim_base.specs.Ids.{◌>>=◌}
use Rattle.bank_books.specs.declared.entries.BankOpening.{BankOpening}
use Rattle.bank_books.specs.Openings.{IsBankOpening}
use Rattle.world_text.specs.declared.script.Why.TheVariants.{Shape, Value}
use Rattle.world_text.specs.BankText.{bank_after, bank_line, bank_of, bank_values, bank_words}
use Rattle.world_text.specs.Fields.{date_word, endpoint_word, env_word}
use Rattle.world_text.specs.Grammar.{TextLines, at_line, text_lines}
use Rattle.world_text.specs.Lines.{words_of}
use Rattle.world_text.proofs.SoundWords.{date_sound, endpoint_sound, env_sound, line_step, tested, text_step, value_step}

values_sound : (endpoint env date : List ℕ) (o : BankOpening) → bank_values endpoint env date ≡ Ok o → IsBankOpening o
values_sound endpoint env date o is =
    let p = value_step (endpoint_word endpoint) Value _ o is in
    let e = value_step (env_word env) Value _ o p.2 in
    let d = value_step (date_word date) Value _ o e.2 in
    let made : BankOpening = record { endpoint = p.0; env = e.0; date = d.0 } in
    let same : made ≡ o = let ok = d.2 in cc in
    subst IsBankOpening same (record { endpoint = endpoint_sound endpoint p.0 p.1; env = env_sound env e.0 e.1; date = date_sound date d.0 d.1 })

words_sound : (ws : List (List ℕ)) (o : BankOpening) → bank_words ws ≡ Ok o → IsBankOpening o
words_sound [] o is = absurd cc
words_sound (v ∷ []) o is = absurd cc
words_sound (v ∷ w ∷ []) o is = absurd cc
words_sound (v ∷ w ∷ x ∷ []) o is = absurd cc
words_sound (v ∷ w ∷ x ∷ y ∷ []) o is = values_sound w x y o (tested (bytes_eq v (codes "bank")) (bank_values w x y) Shape o is)
words_sound (v ∷ w ∷ x ∷ y ∷ more ∷ ws) o is = absurd cc

after_same : (a b : BankOpening) (lines : List (List ℕ)) → bank_after a lines ≡ Ok b → a ≡ b
after_same a b [] is = cc
after_same a b (more ∷ lines) is = absurd cc

pub bank_sound : (text : List ℕ) (o : BankOpening) → bank_of text ≡ Ok o → IsBankOpening o
bank_sound text o is =
    let lines = text_step (text_lines text) (λ (l : TextLines). at_line 1 (bank_line l.first) >>= (λ b. bank_after b l.others)) o is in
    let read = line_step 1 (bank_line lines.0.first) (λ b. bank_after b lines.0.others) o lines.2 in
    subst IsBankOpening (after_same read.0 o lines.0.others read.2) (words_sound (words_of 4 lines.0.first) read.0 read.1)
