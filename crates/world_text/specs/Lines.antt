-- The lines of a text, and the words of a line (docs/FORMATS.md, "Scripts").
use Rattle.std.specs.Prelude.{ℕ, zero, suc, ◌==◌, Bool, List, [], ◌∷◌, Option, Some, None, if◌then◌else◌}

abbrev pub is_line_end : ℕ → Bool
is_line_end b = b == 10

abbrev pub is_blank : ℕ → Bool
is_blank b = b == 32

-- a byte before the first of some lines; before none it begins one
abbrev pub onto_first : ℕ → List (List ℕ) → List (List ℕ)
onto_first b [] = (b ∷ []) ∷ []
onto_first b (line ∷ lines) = (b ∷ line) ∷ lines

-- the lines of a text; each ends with LF, which may be absent from the last
abbrev pub lines_of : List ℕ → List (List ℕ)
lines_of [] = []
lines_of (b ∷ rest) = if is_line_end b then [] ∷ lines_of rest else onto_first b (lines_of rest)

-- what stands before the first byte that passes a test, and what stands after it, if there is one
abbrev pub until : (ℕ → Bool) → List ℕ → List ℕ
until p [] = []
until p (b ∷ rest) = if p b then [] else b ∷ until p rest

abbrev pub after : (ℕ → Bool) → List ℕ → Option (List ℕ)
after p [] = None
after p (b ∷ rest) = if p b then Some rest else after p rest

abbrev pub first_word : List ℕ → List ℕ
first_word line = until is_blank line

abbrev pub words_after : (List ℕ → List (List ℕ)) → Option (List ℕ) → List (List ℕ)
words_after words None = []
words_after words (Some rest) = words rest

-- the words of a line, parted by single blanks; after so many words the next one is all that is left
unfoldable pub words_of : ℕ → List ℕ → List (List ℕ)
words_of zero line = line ∷ []
words_of (suc more) line = first_word line ∷ words_after (words_of more) (after is_blank line)
