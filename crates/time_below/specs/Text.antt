-- Parts of the texts of values, by std's decimal text of a number.
use Rattle.std.specs.Prelude.{ℕ, zero, suc, ◌/◌, ◌%◌, ◌^◌, ◌==◌, List, [], ◌++◌, if◌then◌else◌}
use Rattle.std.specs.Fmt.{decimal}

-- the two digits of a number below 100
abbrev pub two_digits : ℕ → List ℕ
two_digits n = decimal (n / 10) ++ decimal (n % 10)

-- the decimals of n parts of 10 ^ k, which are less than one: the first, and the others while something is left
unfoldable pub decimals : ℕ → ℕ → List ℕ
decimals zero n = []
decimals (suc k) n = decimal (n / 10 ^ k) ++ (if n % 10 ^ k == 0 then [] else decimals k (n % 10 ^ k))
