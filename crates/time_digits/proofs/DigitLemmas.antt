-- The texts of numbers: their first digits, and then their last ones.
--
-- A crate above finds here the lemmas on lengths too that go with these.
use Rattle.std.proofs.Common.{◌≡◌, ℕ, zero, suc, ◌+◌, ◌-◌, ◌*◌, ◌/◌, ◌%◌, ◌^◌, ◌<◌, ◌≤◌, [], ◌∷◌, ◌++◌, length}
use Rattle.std.proofs.Common.{replicate, refl, sym, ap, ap₂, ◌∙◌, arith, length-append, append_assoc, decimal, IsAscii}
use Rattle.std.proofs.Common.{⊎_elim}
use Rattle.std.proofs.Math.Nat.{pow-suc, one-le-pow}
use Rattle.std.proofs.Math.Arith.{mod-mul}
use Rattle.std.proofs.lemmas.Fmt.{decimal_digit, decimal_step, decimal_step_wide, IsAscii-from_digits}
use Rattle.std.proofs.lemmas.Int.Digits.{digits_push}
use Rattle.std.proofs.lemmas.Str.{digit_value_digit}
use Rattle.std.proofs.lemmas.List.{append-nil, replicate-append-replicate}
use Rattle.std.proofs.lemmas.Bool.{cases_lt}
use Rattle.std.specs.Str.Parse.{AllDigits}
use Rattle.time_digits.specs.Digits.{fixed, padded, zero_padded}
use Rattle.time_digits.proofs.DivisionLemmas.{div-ten-pow}
use Rattle.std.proofs.lemmas.Grind.{common_steps}
pub use Rattle.time_digits.proofs.LengthLemmas.{length-fixed, decimal_longer}

-- ---- fixed digits

-- one digit more: the last one follows the others
pub fixed_step : (k n : ℕ) → fixed (suc k) n ≡ fixed k (n / 10) ++ (48 + n % 10) ∷ []
unfolding fixed
fixed_step k n = refl

-- one fixed digit is the last digit of the number
pub fixed-one : (n : ℕ) → fixed 1 n ≡ (48 + n % 10) ∷ []
unfolding fixed
fixed-one n = refl

-- each of the bytes is a digit
pub fixed_digits : (k n : ℕ) → AllDigits 10 (fixed k n)
unfolding fixed
fixed_digits zero n = tt
fixed_digits (suc k) n = digits_push 10 (fixed k (n / 10)) (48 + n % 10) (fixed_digits k (n / 10))
    (omega (arith, digit_value_digit (48 + n % 10) (omega arith, omega arith)))

-- fixed digits are ASCII
pub IsAscii-fixed : (k n : ℕ) → IsAscii (fixed k n)
IsAscii-fixed k n = IsAscii-from_digits (fixed k n) (fixed_digits k n)

-- j + k digits are the last j of the quotient by 10 ^ k, and then the last k
pub fixed-append : (j k n : ℕ) → fixed (j + k) n ≡ fixed j (n / 10 ^ k) ++ fixed k n
unfolding fixed
fixed-append j zero n = grind (arith, append-nil)
fixed-append j (suc k) n =
    let e : j + suc k ≡ suc (j + k) = omega arith in
    rw (e, fixed-append j k (n / 10), div-ten-pow n k, append_assoc) refl

-- the last k digits do not look at what precedes them
pub fixed-mod : (k n : ℕ) → fixed k (n % 10 ^ k) ≡ fixed k n
unfolding fixed
fixed-mod zero n = refl
fixed-mod (suc k) n =
    let p : 10 ^ suc k ≡ 10 ^ k * 10 = pow-suc 10 k in
    let some : 0 < 10 ^ k = one-le-pow k 10 (omega arith) in
    let m : n % (10 ^ k * 10) ≡ n / 10 % 10 ^ k * 10 + n % 10 = mod-mul n some (omega arith) in
    let rest : n % 10 ^ suc k / 10 ≡ n / 10 % 10 ^ k = rw (p, m) (omega arith) in
    let last : n % 10 ^ suc k % 10 ≡ n % 10 = rw (p, m) (omega arith) in
    rw (rest, last, fixed-mod k (n / 10)) refl

-- ---- decimal text

-- decimal text is the text of the rest and the last k digits, from 10 ^ k on
pub decimal-split : (k n : ℕ) → 10 ^ k ≤ n → n < 2 ^ 64 → decimal n ≡ decimal (n / 10 ^ k) ++ fixed k n
unfolding fixed
decimal-split zero n low high = grind (arith, append-nil)
decimal-split (suc k) n low high =
    let p : 10 ^ suc k ≡ 10 ^ k * 10 = pow-suc 10 k in
    let one : 1 ≤ 10 ^ k = one-le-pow k 10 (omega arith) in
    let ten : 10 ≤ n = omega arith in
    let rest : 10 ^ k ≤ n / 10 = omega arith in
    rw (decimal_step n ten high, decimal-split k (n / 10) rest (omega arith), div-ten-pow n k, append_assoc) refl

-- ---- padded text

-- a number that has all the places needs no padding
pub padded_whole : (fill k n : ℕ) → k ≤ length (decimal n) → padded fill k n ≡ decimal n
unfolding padded
padded_whole fill k n h = let e : k - length (decimal n) ≡ 0 = omega arith in rw e refl

-- a number that leaves the first j places free has the padding there
pub padded_short : (fill j k n : ℕ) → length (decimal n) ≤ k → padded fill (j + k) n ≡ replicate j fill
    ++ padded fill k n
unfolding padded
padded_short fill j k n h =
    let places : (j + k) - length (decimal n) ≡ j + (k - length (decimal n)) = omega arith in
    ap (λ m. replicate m fill ++ decimal n) places
    ∙ ap (λ bs. bs ++ decimal n) (sym (replicate-append-replicate j (k - length (decimal n)) fill))
    ∙ append_assoc (replicate j fill) (replicate (k - length (decimal n)) fill) (decimal n)

-- padding changes only the digits before the last k, from 10 ^ k on
pub padded-split : (fill j k n : ℕ) → 10 ^ k ≤ n → n < 2 ^ 64 → padded fill (j + k) n ≡ padded fill j (n / 10 ^ k)
    ++ fixed k n
unfolding padded
padded-split fill j k n low high =
    let d = decimal-split k n low high in
    let rest = decimal (n / 10 ^ k) in
    let places : (j + k) - length (decimal n)
    ≡ j - length rest = omega (arith, ap length d, length-append rest (fixed k n), length-fixed k n) in
    ap₂ (λ m bs. replicate m fill ++ bs) places d
    ∙ sym (append_assoc (replicate (j - length rest) fill) rest (fixed k n))

-- a zero more at the end is a zero more in front
replicate-push : (k : ℕ) → replicate {A = ℕ} k 48 ++ 48 ∷ [] ≡ 48 ∷ replicate {A = ℕ} k 48
replicate-push k = grind (arith, common_steps)

-- the fixed digits of zero are zeros
pub fixed-zero : (k : ℕ) → fixed k 0 ≡ replicate k 48
unfolding fixed
fixed-zero zero = refl
fixed-zero (suc k) = rw (fixed-zero k, replicate-push k) refl

-- a number that fits, padded with zeros, is its fixed digits
pub zero_padded_is : (k n : ℕ) → n < 10 ^ suc k → n < 2 ^ 64 → zero_padded (suc k) n ≡ fixed (suc k) n
unfolding fixed padded
zero_padded_is zero n low high = grind (arith, decimal_digit)
zero_padded_is (suc k) n low high =
    ⊎_elim (λ (h : n < 10).
    let z : n / 10 ≡ 0 = omega arith in
    let m : n % 10 ≡ n = omega arith in
    let l : suc (suc k) - 1 ≡ suc k = omega arith in
    rw (decimal_digit n h, l, z, m, fixed-zero k, replicate-push k) refl)
    (λ (h : 10 ≤ n).
    let p : 10 ^ suc (suc k) ≡ 10 ^ suc k * 10 = pow-suc 10 (suc k) in
    let rest : n / 10 < 10 ^ suc k = omega arith in
    let split = padded-split 48 (suc k) 1 n h high in
    let j : suc k + 1 ≡ suc (suc k) = omega arith in
    rw j at split ∙ ap (λ bs. bs ++ fixed 1 n) (zero_padded_is k (n / 10) rest (omega arith)))
    (cases_lt n 10)

-- a number below 10 is its one fixed digit
pub decimal_one : (n : ℕ) → n < 10 → decimal n ≡ fixed 1 n
unfolding fixed
decimal_one n h = let m : n % 10 ≡ n = omega arith in rw (decimal_digit n h, m) refl

-- a number's text by its last digit
pub ruleset decimal_recursion = (decimal_digit, decimal_step_wide)
