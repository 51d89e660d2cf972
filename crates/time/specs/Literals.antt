-- Seconds as a program writes them: `06`, or `06.12`, perhaps with underscores between digits.
use Rattle.std.specs.Prelude.{ℕ, ◌-◌, ◌*◌, ◌^◌, List, length, filter, Bool, not, ◌==◌, ◌&&◌, nat_lt}
use Rattle.std.specs.List.{before_first, after_first}
use Rattle.std.specs.Str.{all_ascii_digits}
use Rattle.std.specs.Str.Parse.{digits_value}

-- the digits: an underscore between them means nothing
abbrev pub digits_of : List ℕ → List ℕ
digits_of literal = filter (λ c. not (c == 95)) literal

-- the digits before the point, which may be all
abbrev pub whole_digits : List ℕ → List ℕ
whole_digits literal = digits_of (before_first (λ c. c == 46) literal)

-- the digits after the point
abbrev pub decimals_of : List ℕ → List ℕ
decimals_of literal = digits_of (after_first (λ c. c == 46) literal)

-- two digits at most, and nine after a point
abbrev pub is_second : List ℕ → Bool
is_second literal =
    all_ascii_digits (whole_digits literal) && nat_lt (length (whole_digits literal)) 3
    && all_ascii_digits (decimals_of literal)
    && nat_lt (length (decimals_of literal)) 10

-- the whole seconds
abbrev pub second_of : List ℕ → ℕ
second_of literal = digits_value 10 (whole_digits literal)

-- the nanoseconds, which are nine decimals
abbrev pub nanosecond_of : List ℕ → ℕ
nanosecond_of literal = digits_value 10 (decimals_of literal) * 10 ^ (9 - length (decimals_of literal))
