-- Texts of numbers, as bytes: 48 is the digit 0, 32 a space.
use Rattle.std.specs.Prelude.{ℕ, zero, suc, ◌+◌, ◌-◌, ◌/◌, ◌%◌, List, [], ◌∷◌, ◌++◌, length, replicate, Bool, nat_lt}
use Rattle.std.specs.Prelude.{decimal}
use Rattle.std.specs.List.{list_all}
pub use Rattle.time_digits.specs.Pieces.{joined, piece_lengths}

-- the last k digits of n, with zeros in front where it has fewer
unfoldable pub fixed : ℕ → ℕ → List ℕ
fixed zero n = []
fixed (suc k) n = fixed k (n / 10) ++ (48 + n % 10) ∷ []

-- the shortest text of n, after as many bytes of fill as it lacks to k
unfoldable pub padded : ℕ → ℕ → ℕ → List ℕ
padded fill k n = replicate (k - length (decimal n)) fill ++ decimal n

-- the text of n in at least k places, with zeros in front
abbrev pub zero_padded : ℕ → ℕ → List ℕ
zero_padded k n = padded 48 k n

-- k places with spaces in front
abbrev pub space_padded : ℕ → ℕ → List ℕ
space_padded k n = padded 32 k n

-- whether each byte is ASCII
abbrev pub is_ascii : List ℕ → Bool
is_ascii bytes = list_all (λ b. nat_lt b 128) bytes
