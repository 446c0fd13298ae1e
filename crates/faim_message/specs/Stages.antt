-- What may come next in a message, byte by byte: the law `reading_tells_what_begins` pins it to what begins a message.
use Rattle.std.specs.Prelude.{◌≡◌, ℕ, ◌<◌, ◌==◌, not, Bool, true, false, List, [], ◌∷◌, ◌++◌, length, take, slice_index, Option, Some, None, if◌then◌else◌}
use Rattle.faim_base.specs.declared.judgement.Refused.{Refused}
use Rattle.faim_base.specs.declared.judgement.Refused.TheVariants.{Byte, Cut, Missing, NoMemory}
use Rattle.faim_tags.specs.Spelling.{Tag, spelling, is_empty}
use Rattle.faim_tags.specs.Steps.{Progress, InNumber, Inside, step, may_end, tag_of, read_so_far}
use Rattle.faim_message.specs.declared.form.Form.{Form}
use Rattle.faim_message.specs.declared.form.Breaks.{Breaks}
use Rattle.faim_message.specs.declared.form.Breaks.TheVariants.{Joined, Lf, CrLf}
use Rattle.faim_message.specs.declared.so_far.BreakSoFar.{BreakSoFar}
use Rattle.faim_message.specs.declared.so_far.BreakSoFar.TheVariants.{Unknown, Bare, Feed, ReturnFeed}
use Rattle.faim_message.specs.Forms.{first_of, permitted, without}
use Rattle.faim_message.specs.Spelling.{Content, numbers, joined}

-- the numbers that the next tag may have
abbrev pub open_numbers : Form → List Tag → List ℕ
open_numbers form [] = first_of form ∷ []
open_numbers form (v ∷ tags) = without (numbers (v ∷ tags)) (permitted form)

-- how far a message is read: its whole tags, its breaks, and part of the next tag; or its whole tags and a CR
pub data Stage : Type 0 where
  Within : (tags : List Tag) (so_far : BreakSoFar) (part : Progress) → Stage
  Returned : (tags : List Tag) → Stage

-- nothing is read
abbrev pub start : Stage
start = Within [] Unknown (InNumber [])

-- the next tag begins
abbrev pub begun : Form → List Tag → ℕ → Option Stage
begun form tags b = elim (step (open_numbers form tags) (InNumber []) b) [
  | None ↦ None
  | Some p ↦ Some (Within tags Bare p)
]

-- what the byte after a whole tag makes
abbrev pub after_tag : Form → List Tag → BreakSoFar → ℕ → Option Stage
after_tag form tags Unknown b = if b == 10 then Some (Within tags Feed (InNumber [])) else (if b == 13 then Some (Returned tags) else begun form tags b)
after_tag form tags Bare b = begun form tags b
after_tag form tags Feed b = if b == 10 then Some (Within tags Feed (InNumber [])) else None
after_tag form tags ReturnFeed b = if b == 13 then Some (Returned tags) else None

-- what the next byte makes, where some message goes on with it
abbrev pub next : Form → Stage → ℕ → Option Stage
next form (Within tags so_far part) b = elim (step (open_numbers form tags) part b) [
  | None ↦ if may_end part then after_tag form (tags ++ tag_of part ∷ []) so_far b else None
  | Some p ↦ Some (Within tags so_far p)
]
next form (Returned tags) b = if b == 10 then Some (Within tags ReturnFeed (InNumber [])) else None

-- what bytes make, one after another
abbrev pub reads : Form → Stage → List ℕ → Option Stage
reads form s [] = Some s
reads form s (b ∷ bytes) = elim (next form s b) [
  | None ↦ None
  | Some t ↦ reads form t bytes
]

-- a whole tag, or a whole break after one, ends here
abbrev pub is_whole : Stage → Bool
is_whole (Within tags so_far (InNumber [])) = not (is_empty tags)
is_whole (Within tags so_far (InNumber (b ∷ given))) = false
is_whole (Within tags so_far (Inside n fixed stars part)) = may_end (Inside n fixed stars part)
is_whole (Returned tags) = false

-- the tags that are whole here
abbrev pub tags_of : Stage → List Tag
tags_of (Within tags so_far (InNumber given)) = tags
tags_of (Within tags so_far (Inside n fixed stars part)) = tags ++ tag_of (Inside n fixed stars part) ∷ []
tags_of (Returned tags) = tags

-- the breaks, where the last one stands or not
abbrev pub breaks_with : BreakSoFar → Bool → Breaks
breaks_with Unknown last = Joined
breaks_with Bare last = Joined
breaks_with Feed last = Lf last
breaks_with ReturnFeed last = CrLf last

-- the breaks that stand here
abbrev pub breaks_of : Stage → Breaks
breaks_of (Within tags so_far (InNumber given)) = breaks_with so_far true
breaks_of (Within tags so_far (Inside n fixed stars part)) = breaks_with so_far false
breaks_of (Returned tags) = CrLf false

-- the message that ends here
abbrev pub content_of : Form → Stage → Content
content_of form s = record { form = form; breaks = breaks_of s; tags = tags_of s }

-- the bytes between tags
abbrev pub bytes_between : BreakSoFar → List ℕ
bytes_between Unknown = []
bytes_between Bare = []
bytes_between Feed = 10 ∷ []
bytes_between ReturnFeed = 13 ∷ 10 ∷ []

-- tags, each with these bytes after it
abbrev pub followed : List ℕ → List Tag → List ℕ
followed between [] = []
followed between (v ∷ tags) = spelling v ++ (between ++ followed between tags)

-- the bytes that were read
abbrev pub bytes_so_far : Stage → List ℕ
bytes_so_far (Within tags so_far part) = followed (bytes_between so_far) tags ++ read_so_far part
bytes_so_far (Returned tags) = joined (13 ∷ 10 ∷ []) (13 ∷ []) tags

-- the byte at place p is the first with which no message goes on
pub record BarredAt (form : Form) (bytes : List ℕ) (p : ℕ) : Type 0 where
  pub short : p < length bytes
  pub stage : Stage
  pub run : reads form start (take p bytes) ≡ Some stage
  pub none : next form stage (slice_index bytes p) ≡ None

-- the bytes end where no tag and no break is whole
pub record Halts (form : Form) (bytes : List ℕ) : Type 0 where
  pub stage : Stage
  pub run : reads form start bytes ≡ Some stage
  pub unfinished : is_whole stage ≡ false

-- the bytes are these whole tags with these breaks
pub record Ends (form : Form) (bytes : List ℕ) (tags : List Tag) (breaks : Breaks) : Type 0 where
  pub stage : Stage
  pub run : reads form start bytes ≡ Some stage
  pub whole : is_whole stage ≡ true
  pub tags_are : tags_of stage ≡ tags
  pub breaks_are : breaks_of stage ≡ breaks

-- why reading ended before it was through
abbrev pub Fails : Form → List ℕ → Refused → Type 0
Fails form bytes (Byte p) = BarredAt form bytes p
Fails form bytes Cut = Halts form bytes
Fails form bytes (Missing n) = ⊥
Fails form bytes NoMemory = Unit {0}

-- the next tag may stand right after a tag
abbrev pub takes_brace : BreakSoFar → Bool
takes_brace Unknown = true
takes_brace Bare = true
takes_brace so_far = false

-- LF may stand after a tag
abbrev pub takes_feed : BreakSoFar → Bool
takes_feed Unknown = true
takes_feed Feed = true
takes_feed so_far = false

-- CR and LF may stand after a tag
abbrev pub takes_return : BreakSoFar → Bool
takes_return Unknown = true
takes_return ReturnFeed = true
takes_return so_far = false
