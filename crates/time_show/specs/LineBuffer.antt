-- The line whose end has not come: its bytes so far, or the fact that they are too many.
use Rattle.std.specs.Prelude.{ℕ, Option, Some, None, List, ◌++◌, length, nat_le, if◌then◌else◌}

-- what is kept of a line: the line, or nothing if it has more than 128 bytes
abbrev pub kept_of : List ℕ → Option (List ℕ)
kept_of line = if nat_le (length line) 128 then Some line else None

-- what is kept once more bytes of the line have come
abbrev pub kept_with : Option (List ℕ) → List ℕ → Option (List ℕ)
kept_with None more = None
kept_with (Some line) more = kept_of (line ++ more)
