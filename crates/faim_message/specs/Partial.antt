-- What is known of a message that is read in part, once its bytes are forgotten.
use Rattle.std.specs.Prelude.{◌≡◌, ℕ, ◌<◌, not, Bool, true, false, List, length, take, slice_index, Option, Some, None, MatchOption}
use Rattle.faim_tags.specs.Spelling.{Tag, is_empty}
use Rattle.faim_tags.specs.Steps.{Progress, step}
use Rattle.faim_tags.specs.Partial.{StandsFor}
use Rattle.faim_tags.specs.declared.partial.TagPart.{TagPart}
use Rattle.faim_message.specs.declared.form.Form.{Form}
use Rattle.faim_message.specs.declared.form.Breaks.{Breaks}
use Rattle.faim_message.specs.declared.partial.MessagePart.{MessagePart}
use Rattle.faim_message.specs.Forms.{permitted, without}
use Rattle.faim_message.specs.Spelling.{numbers}
use Rattle.faim_message.specs.Stages.{open_numbers, Stage, Within, Returned, start, next, reads, is_whole, breaks_of}

-- its form
abbrev pub form_of : MessagePart → Form
form_of m = m.form

-- it knows the form, whether a tag is whole, and which numbers no whole tag has
pub record Knows (m : MessagePart) (form : Form) (tags : List Tag) : Type 0 where
  pub form_is : m.form ≡ form
  pub any_is : m.any ≡ not (is_empty tags)
  pub left_is : m.remaining ≡ without (numbers tags) (permitted form)

-- it stands for part of a tag that has one of the numbers
abbrev pub PartOf : List ℕ → Option TagPart → Progress → Type 0
PartOf numbers None p = ⊥
PartOf numbers (Some t) p = StandsFor numbers t p

-- it is what is known of a stage
abbrev pub StandsAt : MessagePart → Form → Stage → Type 0
StandsAt m form (Within tags so_far p) = Knows m form tags × (m.so_far ≡ so_far) × PartOf (open_numbers form tags) m.tag p
StandsAt m form (Returned tags) = Knows m form tags × (m.tag ≡ None)

-- it goes on where some message does
abbrev pub Follows : MessagePart → Form → Bool → Option Stage → Type 0
Follows m form true None = ⊥
Follows m form true (Some s) = StandsAt m form s
Follows m form false None = Unit {0}
Follows m form false (Some s) = ⊥

-- no tag that is being read goes on with the byte
abbrev pub PastTag : Form → Stage → ℕ → Type 0
PastTag form (Within tags so_far p) b = step (open_numbers form tags) p b ≡ None
PastTag form (Returned tags) b = Unit {0}

-- the bytes of the tag that is being read were read
pub record ReadsTag (m : MessagePart) (form : Form) (s : Stage) (bytes : List ℕ) (k : ℕ) : Type 0 where
  pub stage : Stage
  pub run : reads form s (take k bytes) ≡ Some stage
  pub stands : StandsAt m form stage
  pub past : k < length bytes → PastTag form stage (slice_index bytes k)

-- so many bytes were read, and either it goes on or the next byte is barred
abbrev pub Moves : MessagePart → Form → Stage → List ℕ → ℕ → Bool → Type 0
Moves m form s bytes k true = (t : Stage) × (reads form s (take k bytes) ≡ Some t) × StandsAt m form t
Moves m form s bytes k false = (t : Stage) × (reads form s (take k bytes) ≡ Some t) × (k < length bytes) × (next form t (slice_index bytes k) ≡ None)

-- these bytes were read, and no byte of them was barred
pub record HasRead (m : MessagePart) (form : Form) (bytes : List ℕ) : Type 0 where
  pub stage : Stage
  pub run : reads form start bytes ≡ Some stage
  pub stands : StandsAt m form stage

-- the breaks, where a tag or a break is whole; none elsewhere
abbrev pub EndsWith : Option Breaks → Stage → Type 0
EndsWith found s = MatchOption found (is_whole s ≡ false) (λ breaks. (is_whole s ≡ true) × (breaks_of s ≡ breaks))
