-- Decimals of a unit.
use Rattle.std.specs.Prelude.{ℕ, ◌*◌, ◌/◌, ◌^◌, List}
use Rattle.time_digits.specs.Digits.{fixed}

-- the first d decimals of rest over unit, not rounded; the rest is less than the unit
abbrev pub decimals : ℕ → ℕ → ℕ → List ℕ
decimals rest unit d = fixed d (rest * 10 ^ d / unit)
