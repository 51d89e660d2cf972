-- The lines of a text. A line ends at a line feed, and a last line without one counts if it is not empty.
use Rattle.std.specs.Prelude.{ℕ, List, [], ◌∷◌, ◌+◌, ◌<◌, ◌++◌, ◌≡◌, ◌≢◌, ◌==◌, length, take, drop, if◌then◌else◌}
use Rattle.std.specs.List.{flat_map, AllByRecursion, onto_first}

-- the byte that ends a line
abbrev pub line_feed : ℕ
line_feed = 10

-- the lines, a last one without its line feed among them
abbrev pub lines_of : List ℕ → List (List ℕ)
lines_of [] = []
lines_of (b ∷ bytes) = if b == line_feed then [] ∷ lines_of bytes else onto_first b (lines_of bytes)

-- the byte at the front of the first line, if there is one
abbrev pub onto_whole : ℕ → List (List ℕ) → List (List ℕ)
onto_whole b [] = []
onto_whole b (line ∷ lines) = (b ∷ line) ∷ lines

-- the lines that have their line feed
abbrev pub whole_lines_of : List ℕ → List (List ℕ)
whole_lines_of [] = []
whole_lines_of (b ∷ bytes) = if b == line_feed then [] ∷ whole_lines_of bytes else onto_whole b (whole_lines_of bytes)

-- the byte belongs to the bytes after the last line feed if no line feed comes after it
abbrev pub onto_rest : ℕ → List (List ℕ) → List ℕ → List ℕ
onto_rest b [] rest = b ∷ rest
onto_rest b (line ∷ lines) rest = rest

-- the bytes after the last line feed
abbrev pub unended_of : List ℕ → List ℕ
unended_of [] = []
unended_of (b ∷ bytes) = if b == line_feed then unended_of bytes else onto_rest b (whole_lines_of bytes)
    (unended_of bytes)

-- no byte is a line feed
abbrev pub IsOneLine : List ℕ → Type 0
IsOneLine line = AllByRecursion (λ b. b ≢ line_feed) line

abbrev pub with_line_feed : List ℕ → List ℕ
with_line_feed line = line ++ line_feed ∷ []

-- a line of these bytes alone, if there are any
abbrev pub last_line_of : List ℕ → List (List ℕ)
last_line_of [] = []
last_line_of (b ∷ bytes) = (b ∷ bytes) ∷ []

-- The definitions above, in other words: the lines and their line feeds are the text, and no line has a line feed
-- inside.
pub record LinesSpell (bytes : List ℕ) : Type 0 where
  pub joined : flat_map with_line_feed (whole_lines_of bytes) ++ unended_of bytes ≡ bytes
  pub whole : AllByRecursion IsOneLine (whole_lines_of bytes)
  pub unended : IsOneLine (unended_of bytes)
  pub last : lines_of bytes ≡ whole_lines_of bytes ++ last_line_of (unended_of bytes)

-- the first line feed of a text is at this place
pub record EndsAt (bytes : List ℕ) (end : ℕ) : Type 0 where
  pub inside : end < length bytes
  pub front : IsOneLine (take end bytes)
  pub line : take (end + 1) bytes ≡ with_line_feed (take end bytes)
  pub whole : bytes ≡ with_line_feed (take end bytes) ++ drop (end + 1) bytes
