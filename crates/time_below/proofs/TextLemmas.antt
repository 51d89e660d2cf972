-- The decimals of a fraction, one after the other.
use Rattle.std.proofs.Common.{◌≡◌, ℕ, zero, suc, ◌-◌, ◌/◌, ◌%◌, ◌^◌, ◌<◌, ◌==◌, ◌≢◌, [], ◌++◌, if◌then◌else◌, refl, arith}
use Rattle.std.proofs.lemmas.Grind.{common_steps}
use Rattle.std.proofs.Math.Nat.{one-le-pow}
use Rattle.std.specs.Fmt.{decimal}
use Rattle.time_below.specs.Text.{decimals}
use native.Mathlib.Numerals.{unary_clauses}

pub ten_power_positive : (k : ℕ) → 0 < 10 ^ k
ten_power_positive k = one-le-pow k 10 (omega arith)

-- where no places are left
pub decimals_none : (k n : ℕ) → k ≡ 0 → decimals k n ≡ []
unfolding decimals
decimals_none zero n e = refl
decimals_none (suc k) n e = absurd (omega arith)

-- the first, and the others of what is left
decimals_first : (k n : ℕ) → 0 < k → decimals k n
    ≡ decimal (n / 10 ^ (k - 1)) ++ (if n % 10 ^ (k - 1) == 0 then [] else decimals (k - 1) (n % 10 ^ (k - 1)))
unfolding decimals
decimals_first zero n h = absurd (omega arith)
decimals_first (suc k) n h = simp unary_clauses refl

-- the last one
pub decimals_last : (k n : ℕ) → 0 < k → n % 10 ^ (k - 1) ≡ 0 → decimals k n ≡ decimal (n / 10 ^ (k - 1))
decimals_last k n h e = grind (arith, common_steps, decimals_first)

-- one that is not the last
pub decimals_more : (k n : ℕ) → 0 < k → n % 10 ^ (k - 1) ≢ 0
    → decimals k n ≡ decimal (n / 10 ^ (k - 1)) ++ decimals (k - 1) (n % 10 ^ (k - 1))
decimals_more k n h e = grind (arith, common_steps, decimals_first)

-- no decimals, one, or more
pub ruleset decimals_in_order = (decimals_none, decimals_last, decimals_more)
