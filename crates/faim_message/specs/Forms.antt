-- Which tags the forms of a message have, and what stands between tags (docs/FORMATS.md, "Messages").
use Rattle.std.specs.Prelude.{ℕ, not, true, List, [], ◌∷◌, filter}
use Rattle.faim_base.specs.Tags.{tag_numbers}
use Rattle.faim_tags.specs.Reading.{is_among}
use Rattle.faim_message.specs.declared.form.Form.{Form}
use Rattle.faim_message.specs.declared.form.Form.TheVariants.{Input, Draft, Output, Ack}
use Rattle.faim_message.specs.declared.form.Breaks.{Breaks}
use Rattle.faim_message.specs.declared.form.Breaks.TheVariants.{Joined, Lf, CrLf}

-- the tag that comes first
abbrev pub first_of : Form → ℕ
first_of Input = 1500
first_of Draft = 1500
first_of Output = 1100
first_of Ack = 1100

-- the tags that must be there, in ascending order
abbrev pub mandatory : Form → List ℕ
mandatory Input = 1500 ∷ 1510 ∷ 1520 ∷ 2000 ∷ 3100 ∷ 3400 ∷ 3600 ∷ []
mandatory Draft = 1500 ∷ 1510 ∷ 2000 ∷ 3100 ∷ 3400 ∷ 3600 ∷ []
mandatory Output = 1100 ∷ 1110 ∷ 1120 ∷ []
mandatory Ack = 1100 ∷ 1110 ∷ []

-- the numbers but these
abbrev pub without : List ℕ → List ℕ → List ℕ
without these numbers = filter (λ n. not (is_among these n)) numbers

-- the tags that may be there
unfoldable pub permitted : Form → List ℕ
permitted Input = without (1100 ∷ 1110 ∷ 1120 ∷ 1130 ∷ []) tag_numbers
permitted Draft = without (1100 ∷ 1110 ∷ 1120 ∷ 1130 ∷ 1520 ∷ []) tag_numbers
permitted Output = without (1130 ∷ []) tag_numbers
permitted Ack = 1100 ∷ 1110 ∷ 1120 ∷ 1130 ∷ 1520 ∷ []

-- the bytes between two tags: none, LF, or CR and LF
abbrev pub between : Breaks → List ℕ
between Joined = []
between (Lf last) = 10 ∷ []
between (CrLf last) = 13 ∷ 10 ∷ []

-- the bytes after the last tag
abbrev pub ending : Breaks → List ℕ
ending Joined = []
ending (Lf true) = 10 ∷ []
ending (CrLf true) = 13 ∷ 10 ∷ []
ending breaks = []
