-- What was fed to a decoder, and what it answers (docs/FORMATS.md, "Messages").
use Rattle.std.specs.Prelude.{◌≡◌, ℕ, List, Option, Result, MatchOption, MatchResult}
use Rattle.faim_base.specs.declared.judgement.Refused.{Refused}
use Rattle.faim_base.specs.declared.judgement.Refused.TheVariants.{Byte}
use Rattle.faim_message.specs.declared.form.Form.{Form}
use Rattle.faim_message.specs.Refusal.{StopsAt}

-- a decoder: its form, the bytes that it keeps, and the place at which the bytes fed stop beginning a message
pub record Held : Type 0 where
  pub form : Form
  pub bytes : List ℕ
  pub stop : Option ℕ

-- all bytes that were fed, in order, are these: it keeps them, or they stop at its place
abbrev pub IsFed : Held → List ℕ → Type 0
IsFed d fed = MatchOption d.stop (d.bytes ≡ fed) (λ p. StopsAt d.form fed p)

-- the answer of a feed after which all bytes fed are these: their longest beginning is all of them, or ends at a place
abbrev pub Judges : Form → List ℕ → Result (Unit {0}) Refused → Type 0
Judges form fed answer = MatchResult answer (λ _. (p : ℕ) → StopsAt form fed p → ⊥) (λ e. (p : ℕ) × (e ≡ Byte p) × StopsAt form fed p)
