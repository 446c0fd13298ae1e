-- The reading of bytes as a function (docs/FORMATS.md, "Messages").
use Rattle.std.specs.Prelude.{ℕ, ◌&&◌, List, Option, Some, None, option_and_then, if◌then◌else◌}
use Rattle.faim_message.specs.declared.form.Form.{Form}
use Rattle.faim_message.specs.Spelling.{Content, is_complete}
use Rattle.faim_message.specs.Stages.{Stage, start, reads, is_whole, tags_of, content_of}

-- the message that ends here; none inside a tag or a break, or where a mandatory tag isn't there
abbrev pub ended_at : Form → Stage → Option Content
ended_at form s = if is_whole s && is_complete form (tags_of s) then Some (content_of form s) else None

-- the message of the form that the bytes spell, none where they spell none: the law `decoded_is_spelled` pins it to `Spells`
abbrev pub decoded : Form → List ℕ → Option Content
decoded form bytes = option_and_then (ended_at form) (reads form start bytes)
