-- Divisions by powers of ten.
use Rattle.std.proofs.Common.{◌≡◌, ℕ, suc, ◌*◌, ◌/◌, ◌^◌, ◌≤◌, sym, ap, ◌∙◌, arith}
use Rattle.std.proofs.Math.Nat.{pow-succ', div-div-eq-div-mul}

-- a quotient by ten and then by 10 ^ k is the one by the next power
pub div-ten-pow : (n k : ℕ) → n / 10 / 10 ^ k ≡ n / 10 ^ suc k
div-ten-pow n k = div-div-eq-div-mul n 10 (10 ^ k) ∙ ap (λ m. n / m) (sym (pow-succ' 10 k))

-- a quotient by a hundred through a multiplication: 5243 * 100 is 2 ^ 19 + 12, and up to 43,698 the error stays below
-- one hundredth
pub quotient_by_5243 : (n : ℕ) → n ≤ 43_698 → n * 5243 / 2 ^ 19 ≡ n / 100
quotient_by_5243 n h = omega arith
