-- Bytes of a message from a place on. No law cites it: it serves the cutting of tags alone.
use Rattle.std.specs.Prelude.{◌≡◌, ℕ, ◌≤◌, ◌==◌, not, true, List, ◌++◌, length, drop}
use Rattle.std.specs.List.{list_all}
use Rattle.faim_tags.specs.Spelling.{Tag}
use Rattle.faim_message.specs.declared.form.Breaks.{Breaks}
use Rattle.faim_message.specs.Forms.{between, ending}
use Rattle.faim_message.specs.Spelling.{EachTag, joined}

-- tags were cut off the front, and from a place on the rest of a break stands, and then the other tags
pub record Rest (breaks : Breaks) (whole tags : List Tag) (bytes : List ℕ) (place : ℕ) : Type 0 where
  pub within : place ≤ length bytes
  pub more : List Tag
  pub gap : List ℕ
  pub all : tags ++ more ≡ whole
  pub left : drop place bytes ≡ gap ++ joined (between breaks) (ending breaks) more
  pub quiet : list_all (λ b. not (b == 123)) gap ≡ true
  pub each : EachTag more
