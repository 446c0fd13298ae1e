-- The submission that a draft becomes with an identifier (docs/FORMATS.md, "Messages").
use Rattle.std.specs.Prelude.{ℕ, ◌==◌, false, List, [], ◌∷◌, if◌then◌else◌}
use Rattle.faim_tags.specs.Spelling.{Tag}
use Rattle.faim_message.specs.declared.form.Form.TheVariants.{Input}
use Rattle.faim_message.specs.Spelling.{Content}

-- a tag 1520 with an identifier's text
abbrev pub imad_tag : List ℕ → Tag
imad_tag text = record { no = 1520; fixed = text; stars = []; closed = false }

-- tags with one more right after the tag with this number, or at the end where there is none
abbrev pub put_after : ℕ → Tag → List Tag → List Tag
put_after n t [] = t ∷ []
put_after n t (v ∷ tags) = if v.no == n then v ∷ t ∷ tags else v ∷ put_after n t tags

-- the draft as a submission, with the identifier right after the tag 1510
abbrev pub numbered : Content → List ℕ → Content
numbered m text = record { form = Input; breaks = m.breaks; tags = put_after 1510 (imad_tag text) m.tags }
