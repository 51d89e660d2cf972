-- The decimals of a second, without the zeros at their end.
use Rattle.std.specs.Prelude.{◌≡◌, ℕ, ◌-◌, ◌≤◌, ◌==◌, List, [], ◌∷◌, ◌++◌, length, replicate, Bool, if◌then◌else◌}
use Rattle.std.specs.List.{list_all}
use Rattle.std.specs.Str.Parse.{AllDigits}
use Rattle.time_digits.specs.Digits.{fixed}

-- whether each byte is the digit 0
abbrev pub are_zeros : List ℕ → Bool
are_zeros ds = list_all (λ d. d == 48) ds

-- a text without the zeros at its end
abbrev pub without_last_zeros : List ℕ → List ℕ
without_last_zeros [] = []
without_last_zeros (d ∷ ds) = if are_zeros (d ∷ ds) then [] else d ∷ without_last_zeros ds

-- how many zeros end a text
unfoldable pub last_zeros : List ℕ → ℕ
last_zeros ds = length ds - length (without_last_zeros ds)

-- digits without their last zeros; the first one stays
abbrev pub trimmed : List ℕ → List ℕ
trimmed [] = []
trimmed (d ∷ ds) = d ∷ without_last_zeros ds

-- the nine digits of n without the zeros at their end, at least one digit
unfoldable pub trimmed_fraction : ℕ → List ℕ
trimmed_fraction n = trimmed (fixed 9 n)

-- one to nine digits that, filled with zeros to nine, are the nine digits of n
pub record IsFraction (text : List ℕ) (n : ℕ) : Type 0 where
  pub digits : AllDigits 10 text
  pub some : 1 ≤ length text
  pub most : length text ≤ 9
  pub filled : text ++ replicate (9 - length text) 48 ≡ fixed 9 n

-- the shortest of them
pub record IsTrimmedFraction (text : List ℕ) (n : ℕ) : Type 0 where
  pub fraction : IsFraction text n
  pub shortest : (other : List ℕ) → IsFraction other n → length text ≤ length other

-- the trimmed fraction of n is the shortest, and no other text is
abbrev pub IsOnlyTrimmedFraction : ℕ → Type 0
IsOnlyTrimmedFraction n =
    IsTrimmedFraction (trimmed_fraction n) n × ((text : List ℕ) → IsTrimmedFraction text n → text ≡ trimmed_fraction n)
