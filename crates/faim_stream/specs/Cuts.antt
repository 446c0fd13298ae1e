-- Pieces that are fed one after another.
use Rattle.std.specs.Prelude.{ℕ, List, [], ◌∷◌, ◌++◌, Result}
use Rattle.faim_base.specs.declared.judgement.Refused.{Refused}
use Rattle.faim_message.specs.declared.form.Form.{Form}
use Rattle.faim_stream.specs.Fed.{Judges}

-- after some bytes, pieces have these answers, each that of all bytes fed until then
abbrev pub Answers : Form → List ℕ → List (List ℕ) → List (Result (Unit {0}) Refused) → Type 0
Answers form fed [] [] = Unit {0}
Answers form fed [] (a ∷ answers) = ⊥
Answers form fed (piece ∷ pieces) [] = ⊥
Answers form fed (piece ∷ pieces) (a ∷ answers) = Judges form (fed ++ piece) a × Answers form (fed ++ piece) pieces answers
