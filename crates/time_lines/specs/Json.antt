-- Where strings of JSON stand in a line, and which bytes a text in quotes may have.
use Rattle.std.specs.Prelude.{ℕ, List, [], ◌∷◌, Bool, not, false, ◌&&◌, ◌||◌, ◌==◌, take, if◌then◌else◌}

-- whether the text ends inside of a string (quotes are 34), where it begins inside of one or not, and perhaps behind a
-- backslash (92), whose next byte ends no string
abbrev pub ends_in_string : Bool → Bool → List ℕ → Bool
ends_in_string inside escaped [] = inside
ends_in_string inside escaped (b ∷ text) =
    ends_in_string (if (b == 34) && not escaped then not inside else inside) (inside && ((b == 92) && not escaped)) text

-- whether a value of JSON stands here, in no string of the line
abbrev pub is_value_at : List ℕ → ℕ → Bool
is_value_at line at = not (ends_in_string false false (take at line))

-- the quotes that stand on both sides of a text, if they are asked for
abbrev pub quotes_if : Bool → List ℕ
quotes_if wanted = if wanted then 34 ∷ [] else []

-- whether the text begins with the exponent of a number (`E` or `e`)
abbrev pub has_exponent : List ℕ → Bool
has_exponent [] = false
has_exponent (b ∷ text) = (b == 69) || (b == 101)
