-- The lines of a text. A line ends at a line feed, and a last line without one counts if it is not empty.
use Rattle.std.specs.Prelude.{ℕ, ◌==◌, Bool, List, [], ◌∷◌, ◌++◌}
use Rattle.std.specs.List.{slice_split}

-- whether the byte ends a line
abbrev pub is_line_feed : ℕ → Bool
is_line_feed b = b == 10

-- the parts but the last one
abbrev pub ended_parts : List (List ℕ) → List (List ℕ)
ended_parts [] = []
ended_parts (part ∷ []) = []
ended_parts (part ∷ next ∷ others) = part ∷ ended_parts (next ∷ others)

-- the last part
abbrev pub last_part : List (List ℕ) → List ℕ
last_part [] = []
last_part (part ∷ []) = part
last_part (part ∷ next ∷ others) = last_part (next ∷ others)

-- the lines that have their line feed
abbrev pub whole_lines_of : List ℕ → List (List ℕ)
whole_lines_of bytes = ended_parts (slice_split is_line_feed bytes)

-- the bytes after the last line feed
abbrev pub unended_of : List ℕ → List ℕ
unended_of bytes = last_part (slice_split is_line_feed bytes)

-- a line of these bytes alone, if there are any
abbrev pub last_line_of : List ℕ → List (List ℕ)
last_line_of [] = []
last_line_of (b ∷ bytes) = (b ∷ bytes) ∷ []

-- all lines
abbrev pub lines_of : List ℕ → List (List ℕ)
lines_of bytes = whole_lines_of bytes ++ last_line_of (unended_of bytes)
