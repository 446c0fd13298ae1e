-- Limits that several crates keep (docs/FORMATS.md, "Tags").
use Rattle.std.specs.Prelude.{ℕ}

-- how many bytes the longest spelling of a message has; it follows from the layouts of the tags
abbrev pub longest_message : ℕ
longest_message = 4_234
