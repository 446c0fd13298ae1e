-- What begins a message, and why bytes are none (docs/FORMATS.md, "Messages").
use Rattle.std.specs.Prelude.{◌≡◌, ℕ, ◌<◌, ◌≤◌, not, List, ◌++◌, length, take, Option, Some}
use Rattle.std.specs.List.{find}
use Rattle.faim_base.specs.declared.judgement.Refused.{Refused}
use Rattle.faim_base.specs.declared.judgement.Refused.TheVariants.{Byte, Cut, Missing, NoMemory}
use Rattle.faim_tags.specs.Spelling.{Tag}
use Rattle.faim_tags.specs.Reading.{is_among}
use Rattle.faim_message.specs.declared.form.Form.{Form}
use Rattle.faim_message.specs.declared.form.Breaks.{Breaks}
use Rattle.faim_message.specs.Forms.{mandatory, between, ending}
use Rattle.faim_message.specs.Spelling.{Content, IsMessage, AreTags, numbers, joined, message_spelling}

-- some spelling of a message of the form goes on from these bytes
pub record Begins (form : Form) (bytes : List ℕ) : Type 0 where
  pub message : Content
  pub sound : IsMessage message
  pub form_is : message.form ≡ form
  pub rest : List ℕ
  pub goes : message_spelling message ≡ bytes ++ rest

-- the first p bytes begin a message, and no more of them do
pub record StopsAt (form : Form) (bytes : List ℕ) (p : ℕ) : Type 0 where
  pub short : p < length bytes
  pub begins : Begins form (take p bytes)
  pub longest : (k : ℕ) → k ≤ length bytes → Begins form (take k bytes) → k ≤ p

-- the bytes end after a whole tag, or after a whole break that follows one
pub record EndsWhole (form : Form) (bytes : List ℕ) : Type 0 where
  pub tags : List Tag
  pub breaks : Breaks
  pub sound : AreTags form tags
  pub whole : bytes ≡ joined (between breaks) (ending breaks) tags

-- the least of the mandatory numbers that isn't there
abbrev pub missing : Form → List Tag → Option ℕ
missing form tags = find (λ n. not (is_among (numbers tags) n)) (mandatory form)

-- why bytes are no message of the form
abbrev pub Refuses : Form → List ℕ → Refused → Type 0
Refuses form bytes (Byte p) = StopsAt form bytes p
Refuses form bytes (Missing n) = Begins form bytes × ((end : EndsWhole form bytes) × (missing form end.tags ≡ Some n))
Refuses form bytes Cut = Begins form bytes × (EndsWhole form bytes → ⊥)
Refuses form bytes NoMemory = Unit {0}
