-- How long the texts of numbers are, and that padded ones are ASCII.
use Rattle.std.proofs.Common.{◌≡◌, ℕ, zero, suc, ◌+◌, ◌-◌, ◌*◌, ◌/◌, ◌%◌, ◌^◌, ◌<◌, ◌≤◌, List, [], ◌∷◌, length, true}
use Rattle.std.proofs.Common.{false, ap, ⊎_elim, arith, length-append, decimal, IsAscii}
use Rattle.std.proofs.Math.Nat.{pow-suc, one-le-pow, div-le_self}
use Rattle.std.proofs.lemmas.Bool.{cases_Bool}
use Rattle.std.proofs.lemmas.Fmt.{decimal_digit, decimal_step, decimal_nonempty, length-decimal-le}
use Rattle.std.proofs.lemmas.List.{length-replicate}
use Rattle.std.proofs.lemmas.List.Elements.{All-replicate}
use Rattle.std.proofs.lemmas.Str.{IsAscii-append}
use Rattle.std.proofs.lemmas.Str.Ascii.{IsAscii-from_all, IsAscii-nil}
use Rattle.std.proofs.lemmas.Bool.Decides.{nat_tests}
use Rattle.std.specs.Fmt.{digit_glyph, digits, digits_onto}
use Rattle.std.specs.Prelude.{Bool, ◌==◌, if◌then◌else◌}
use Rattle.time_digits.specs.Digits.{fixed, padded}
use Rattle.time_digits.specs.Fraction.{are_zeros, without_last_zeros, last_zeros, trimmed, trimmed_fraction}
use Rattle.time_digits.proofs.DivisionLemmas.{div-ten-pow}
use Rattle.std.proofs.lemmas.Grind.{common_steps}

-- ---- fixed digits

-- k fixed digits are k bytes
pub length-fixed : (k n : ℕ) → length (fixed k n) ≡ k
unfolding fixed
length-fixed zero n = omega arith
length-fixed (suc k) n = omega (arith, length-append (fixed k (n / 10)) ((48 + n % 10) ∷ []), length-fixed k (n / 10))

-- ---- decimal text

-- each number has a digit
pub some_digit : (n : ℕ) → n < 2 ^ 64 → 1 ≤ length (decimal n)
some_digit n fits = omega (arith, decimal_nonempty n fits)

-- a number from 10 ^ k on has k digits more than its quotient by 10 ^ k
pub length-decimal_quotient : (k n : ℕ) → 10 ^ k ≤ n → n < 2 ^ 64 → length (decimal n)
    ≡ length (decimal (n / 10 ^ k)) + k
length-decimal_quotient zero n low fits = grind arith
length-decimal_quotient (suc k) n low fits =
    let power : 10 ^ suc k ≡ 10 ^ k * 10 = pow-suc 10 k in
    let one = one-le-pow k 10 (omega arith) in
    let ten : 10 ≤ n = omega (arith, power, one) in
    let rest : 10 ^ k ≤ n / 10 = omega (arith, power) in
    let front = rw div-ten-pow at (length-decimal_quotient k (n / 10) rest (omega arith)) in
    omega (arith, front, ap length (decimal_step n ten fits), length-append (decimal (n / 10)) ((48 + n % 10) ∷ []))

-- a number has more than k digits, from 10 ^ k on
pub decimal_longer : (k n : ℕ) → 10 ^ k ≤ n → n < 2 ^ 64 → k < length (decimal n)
decimal_longer k n low fits = omega (
  arith,
  length-decimal_quotient k n low fits,
  decimal_nonempty (n / 10 ^ k) (omega (arith, div-le_self n (10 ^ k))),
)

-- a number has k + 1 digits, from 10 ^ k on and below the next power
pub length-decimal : (k n : ℕ) → 10 ^ k ≤ n → n < 10 ^ suc k → n < 2 ^ 64 → length (decimal n) ≡ suc k
length-decimal k n low high fits = grind (arith, decimal_longer, length-decimal-le)

-- a number has one digit below 10, at most two below 100, and more from there on
pub length-digit : (n : ℕ) → n < 10 → length (decimal n) ≡ 1
length-digit n below = ap length (decimal_digit n below)

pub length-decimal_two : (n : ℕ) → n < 100 → length (decimal n) ≤ 2
length-decimal_two n below = length-decimal-le 2 n (omega arith) below (omega arith)

pub length-decimal_three : (n : ℕ) → n < 1000 → length (decimal n) ≤ 3
length-decimal_three n below = length-decimal-le 3 n (omega arith) below (omega arith)

pub length-decimal_four : (n : ℕ) → n < 10_000 → length (decimal n) ≤ 4
length-decimal_four n below = length-decimal-le 4 n (omega arith) below (omega arith)

-- a number of 64 bits has at most 20
pub length-decimal_word : (n : ℕ) → n < 2 ^ 64 → length (decimal n) ≤ 20
length-decimal_word n fits = length-decimal-le 20 n (omega arith) (omega arith) fits

-- a number has three digits from 100 on, and four from 1,000 on
pub length-three_whole : (n : ℕ) → 100 ≤ n → n < 1000 → length (decimal n) ≡ 3
length-three_whole n low high = length-decimal 2 n low high (omega arith)

pub length-four_whole : (n : ℕ) → 1000 ≤ n → n < 10_000 → length (decimal n) ≡ 4
length-four_whole n low high = length-decimal 3 n low high (omega arith)

-- the digits before the last four are those of the quotient by 10,000; a number below it has none
pub length-before_four : (n : ℕ) → 10_000 ≤ n → n < 2 ^ 64 → length (decimal n) - 4 ≡ length (decimal (n / 10_000))
length-before_four n low fits = omega (arith, length-decimal_quotient 4 n low fits)

pub length-before_none : (n : ℕ) → n < 10_000 → length (decimal n) - 4 ≡ 0
length-before_none n below = omega (arith, length-decimal_four n below)

-- ---- counted digits

-- a number has k + 1 digits, if 10 ^ k is the greatest power of ten within it, as the logarithm has it
pub length-decimal_at : (k n : ℕ) → 10 ^ k ≤ n → n < 10 * 10 ^ k → n < 2 ^ 64 → length (decimal n) ≡ k + 1
length-decimal_at k n low high fits = grind (arith, pow-suc, length-decimal)

-- zero has one digit and no logarithm
pub length-decimal_zero : (n : ℕ) → n ≡ 0 → length (decimal n) ≡ 1
length-decimal_zero n none = length-digit n (omega arith)

pub ruleset count_facts = (length-decimal_at, length-decimal_zero)

-- ---- padded text

-- a number that fits has all the places
pub length-padded : (fill k n : ℕ) → length (decimal n) ≤ k → length (padded fill k n) ≡ k
unfolding padded
length-padded fill k n fits = grind (arith, length-append, length-replicate)

-- a padded text is no longer than the longer of its places and its digits
pub length-padded-le : (fill k n most : ℕ) → k ≤ most → length (decimal n) ≤ most → length (padded fill k n) ≤ most
unfolding padded
length-padded-le fill k n most places digits = grind (arith, length-append, length-replicate)

-- a digit is ASCII
IsAscii-glyph : (d : ℕ) → d < 10 → IsAscii (digit_glyph false d ∷ [])
IsAscii-glyph d h k = grind (arith, common_steps, nat_tests)

-- digits in front of an ASCII text are ASCII, for any number of digits
IsAscii-onto : (k n : ℕ) (text : List ℕ) → IsAscii text → IsAscii (digits_onto k 10 false n text)
IsAscii-onto zero n text h = h
IsAscii-onto (suc k) n text h =
    let more = IsAscii-append (digit_glyph false (n % 10) ∷ []) text (IsAscii-glyph (n % 10) (omega arith)) h in
    by (n / 10 == 0) _ _ more (IsAscii-onto k (n / 10) _ more) where
      by : (b : Bool) (x y : List ℕ) → IsAscii x → IsAscii y → IsAscii (if b then x else y)
      by true x y p q = p
      by false x y p q = q

-- the text of any number is ASCII
pub IsAscii-number : (n : ℕ) → IsAscii (decimal n)
unfolding digits
IsAscii-number n = IsAscii-onto 64 n [] IsAscii-nil

-- the text of a number padded by an ASCII byte is ASCII
pub IsAscii-padded : (fill k n : ℕ) → fill < 128 → IsAscii (padded fill k n)
unfolding padded
IsAscii-padded fill k n low =
    grind (arith, common_steps, IsAscii-append, IsAscii-from_all, All-replicate, IsAscii-number)

-- ---- trimmed fractions

-- a text without its last zeros is no longer
pub length-without_last_zeros : (ds : List ℕ) → length (without_last_zeros ds) ≤ length ds
length-without_last_zeros [] = omega arith
length-without_last_zeros (d ∷ ds) =
    ⊎_elim (λ (e : are_zeros (d ∷ ds) ≡ true). rw e (omega arith))
    (λ (e : are_zeros (d ∷ ds) ≡ false). rw e (omega (arith, length-without_last_zeros ds)))
    (cases_Bool (are_zeros (d ∷ ds)))

-- a text has no more last zeros than bytes
pub last_zeros-le : (ds : List ℕ) → last_zeros ds ≤ length ds
unfolding last_zeros
last_zeros-le ds = omega arith

-- a trimmed text is no longer, and is empty only if the text was
pub length-trimmed : (ds : List ℕ) → length (trimmed ds) ≤ length ds
length-trimmed ds = grind (arith, common_steps, length-without_last_zeros)

pub trimmed_some : (ds : List ℕ) → 1 ≤ length ds → 1 ≤ length (trimmed ds)
trimmed_some ds h = grind (arith, common_steps)

-- a trimmed fraction has at most nine digits
pub length-trimmed_fraction : (n : ℕ) → length (trimmed_fraction n) ≤ 9
unfolding trimmed_fraction
length-trimmed_fraction n = omega (arith, length-trimmed (fixed 9 n), length-fixed 9 n)
