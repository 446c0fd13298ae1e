-- What a message is, and how it is spelled (docs/FORMATS.md, "Messages").
use Rattle.std.specs.Prelude.{◌≡◌, ℕ, ◌==◌, ◌&&◌, not, Bool, true, false, List, [], ◌∷◌, ◌++◌, map, slice_index, slice_set}
use Rattle.std.specs.List.{list_all, AllByRecursion}
use Rattle.faim_tags.specs.Spelling.{Tag, IsTag, spelling}
use Rattle.faim_tags.specs.Reading.{is_among}
use Rattle.faim_message.specs.declared.form.Form.{Form}
use Rattle.faim_message.specs.declared.form.Form.TheVariants.{Input, Draft, Output, Ack}
use Rattle.faim_message.specs.declared.form.Breaks.{Breaks}
use Rattle.faim_message.specs.Forms.{first_of, mandatory, permitted, between, ending}

-- a message: its form, its breaks and its tags
pub record Content : Type 0 where
  pub form : Form
  pub breaks : Breaks
  pub tags : List Tag

-- the numbers of tags
abbrev pub numbers : List Tag → List ℕ
numbers tags = map (λ v. v.no) tags

-- no number comes twice
abbrev pub distinct : List ℕ → Bool
distinct [] = true
distinct (n ∷ ns) = not (is_among ns n) && distinct ns

-- the first tag has this number
abbrev pub leads : ℕ → List Tag → Bool
leads n [] = false
leads n (v ∷ tags) = v.no == n

-- each is a tag of the format
abbrev pub EachTag : List Tag → Type 0
EachTag tags = AllByRecursion IsTag tags

-- tags that may stand at a message's begin: the first is the form's, each is permitted, and none comes twice
pub record AreTags (form : Form) (tags : List Tag) : Type 0 where
  pub each : EachTag tags
  pub apart : distinct (numbers tags) ≡ true
  pub allowed : list_all (is_among (permitted form)) (numbers tags) ≡ true
  pub led : leads (first_of form) tags ≡ true

-- the mandatory tags are all there
abbrev pub is_complete : Form → List Tag → Bool
is_complete form tags = list_all (is_among (numbers tags)) (mandatory form)

-- a message of its form
pub record IsMessage (m : Content) : Type 0 where
  pub tags_sound : AreTags m.form m.tags
  pub complete : is_complete m.form m.tags ≡ true

-- tags with these bytes between them, and those after the last
abbrev pub joined : List ℕ → List ℕ → List Tag → List ℕ
joined between ending [] = []
joined between ending (v ∷ []) = spelling v ++ ending
joined between ending (v ∷ w ∷ tags) = spelling v ++ (between ++ joined between ending (w ∷ tags))

-- the bytes of a message
abbrev pub message_spelling : Content → List ℕ
message_spelling m = joined (between m.breaks) (ending m.breaks) m.tags

-- these bytes spell this message
pub record Spells (m : Content) (bytes : List ℕ) : Type 0 where
  pub sound : IsMessage m
  pub spelled : bytes ≡ message_spelling m

-- where the mark, which is the duplication code, stands in the first tag's fixed bytes
abbrev pub mark_place : Form → ℕ
mark_place Input = 11
mark_place Draft = 11
mark_place Output = 3
mark_place Ack = 3

-- a byte of the first tag's fixed elements
abbrev pub first_byte : List Tag → ℕ → ℕ
first_byte [] place = 0
first_byte (v ∷ tags) place = slice_index v.fixed place

-- the mark of tags
abbrev pub mark_in : Form → List Tag → ℕ
mark_in form tags = first_byte tags (mark_place form)

-- tags with another byte at a place of the first tag's fixed elements
abbrev pub with_first_byte : List Tag → ℕ → ℕ → List Tag
with_first_byte [] place byte = []
with_first_byte (v ∷ tags) place byte = record v { fixed = slice_set v.fixed place byte } ∷ tags

-- the message with another mark
abbrev pub marked_with : ℕ → Content → Content
marked_with mark m = record m { tags = with_first_byte m.tags (mark_place m.form) mark }

-- which byte of a message the mark is, counted from 0
abbrev pub mark_byte : Form → ℕ
mark_byte Input = 17
mark_byte Draft = 17
mark_byte Output = 9
mark_byte Ack = 9

-- the text of a submission with a blank as its mark
abbrev pub body_text : Content → List ℕ
body_text m = slice_set (message_spelling m) (mark_byte Input) 32
