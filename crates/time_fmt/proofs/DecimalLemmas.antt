-- The first decimals of the second are the digits of a smaller number.
use Rattle.std.proofs.Common.{◌≡◌, ℕ, ◌+◌, ◌*◌, ◌/◌, ◌%◌, ◌^◌, ◌<◌, ◌≤◌, List, ◌++◌, length, take, decimal}
use Rattle.std.proofs.Common.{sym, ap, ◌∙◌, arith, length-append, append_assoc}
use Rattle.std.proofs.lemmas.List.{take-append-le, take_all}
use Rattle.std.proofs.Math.ListN.{length-take}
use Rattle.time_below.specs.declared.format_description.modifier.SubsecondDigits.{SubsecondDigits}
use Rattle.time_below.specs.Width.{subsecond_width}
use Rattle.time_digits.specs.Digits.{fixed, zero_padded}
use Rattle.time_digits.proofs.DigitLemmas.{fixed-append, fixed-mod, length-fixed, zero_padded_is, decimal_one}
use Rattle.time_digits.proofs.LengthLemmas.{length-digit}
use Rattle.time_digits.proofs.FractionLemmas.{length-trimmed_fraction}
use Rattle.time_fmt.specs.Decimals.{decimals}
use Rattle.time_fmt.specs.Text.{subsecond_text}
use Rattle.time_fmt.proofs.NumberLemmas.{two_zeros, four_zeros, six_zeros, four_and_four}
use Rattle.std.proofs.lemmas.Grind.{common_steps}

-- the first bytes of two texts are those of the first
take_front : (xs ys : List ℕ) (k : ℕ) → length xs ≡ k → take k (xs ++ ys) ≡ xs
take_front xs ys k h = let le : k ≤ length xs = omega arith in take-append-le k xs ys le ∙ take_all k xs (omega arith)

-- the first j of j + k digits
pub take-fixed : (j k n : ℕ) → take j (fixed (j + k) n) ≡ fixed j (n / 10 ^ k)
take-fixed j k n = grind (arith, fixed-append, take_front, length-fixed)

-- they are j
pub length-first : (j k n : ℕ) → length (take j (fixed (j + k) n)) ≡ j
length-first j k n = ap length (take-fixed j k n) ∙ length-fixed j (n / 10 ^ k)

-- the first one to nine decimals of the second, each by what the nanosecond leaves of a power of ten
pub one_decimal : (n : ℕ) → n < 1_000_000_000 → take 1 (fixed 9 n) ≡ decimal (n / 100_000_000)
one_decimal n h = take-fixed 1 8 n ∙ sym (decimal_one (n / 100_000_000) (omega arith))

pub two_decimals : (n : ℕ) → n < 1_000_000_000 → take 2 (fixed 9 n) ≡ zero_padded 2 (n / 10_000_000)
two_decimals n h = take-fixed 2 7 n ∙ sym (zero_padded_is 1 (n / 10_000_000) (omega arith) (omega arith))

pub three_decimals : (n : ℕ) → n < 1_000_000_000 → take 3 (fixed 9 n) ≡ zero_padded 3 (n / 1_000_000)
three_decimals n h = take-fixed 3 6 n ∙ sym (zero_padded_is 2 (n / 1_000_000) (omega arith) (omega arith))

pub four_decimals : (n : ℕ) → n < 1_000_000_000 → take 4 (fixed 9 n) ≡ zero_padded 4 (n / 100_000)
four_decimals n h = take-fixed 4 5 n ∙ sym (zero_padded_is 3 (n / 100_000) (omega arith) (omega arith))

pub five_decimals : (n : ℕ) → n < 1_000_000_000 → take 5 (fixed 9 n) ≡ zero_padded 5 (n / 10_000)
five_decimals n h = take-fixed 5 4 n ∙ sym (zero_padded_is 4 (n / 10_000) (omega arith) (omega arith))

pub six_decimals : (n : ℕ) → n < 1_000_000_000 → take 6 (fixed 9 n) ≡ zero_padded 6 (n / 1_000)
six_decimals n h = take-fixed 6 3 n ∙ sym (zero_padded_is 5 (n / 1_000) (omega arith) (omega arith))

pub seven_decimals : (n : ℕ) → take 7 (fixed 9 n) ≡ fixed 7 (n / 100)
seven_decimals n = take-fixed 7 2 n

pub eight_decimals : (n : ℕ) → take 8 (fixed 9 n) ≡ fixed 8 (n / 10)
eight_decimals n = take-fixed 8 1 n

pub nine_decimals : (n : ℕ) → take 9 (fixed 9 n) ≡ fixed 9 n
nine_decimals n = take_all 9 (fixed 9 n) (omega (arith, length-fixed 9 n))

pub ruleset first_decimals = (
  one_decimal,
  two_decimals,
  three_decimals,
  four_decimals,
  five_decimals,
  six_decimals,
  seven_decimals,
  eight_decimals,
  nine_decimals,
  length-fixed,
)

-- the first three and the first six, as decimals of a second
pub three_of_second : (n : ℕ) → take 3 (fixed 9 n) ≡ decimals n 1_000_000_000 3
three_of_second n =
    let same : n / 10 ^ 6 ≡ n * 10 ^ 3 / 1_000_000_000 = omega arith in take-fixed 3 6 n ∙ ap (fixed 3) same

pub six_of_second : (n : ℕ) → take 6 (fixed 9 n) ≡ decimals n 1_000_000_000 6
six_of_second n =
    let same : n / 10 ^ 3 ≡ n * 10 ^ 6 / 1_000_000_000 = omega arith in take-fixed 6 3 n ∙ ap (fixed 6) same

-- six digits by the first two and the next four
pub six_parts : (n : ℕ) → n < 1_000_000_000
    → zero_padded 2 (n / 1_000 / 10_000) ++ zero_padded 4 (n / 1_000 % 10_000) ≡ take 6 (fixed 9 n)
six_parts n h =
    let m = n / 1_000 in
    let first = zero_padded_is 1 (m / 10_000) (omega arith) (omega arith) in
    let last = zero_padded_is 3 (m % 10_000) (omega arith) (omega arith) ∙ fixed-mod 4 m in
    ap (λ xs. xs ++ zero_padded 4 (m % 10_000)) first ∙ ap (λ ys. fixed 2 (m / 10_000) ++ ys) last
    ∙ sym (fixed-append 2 4 m) ∙ sym (take-fixed 6 3 n)

pub ruleset six_digits = (six_parts, two_zeros, four_zeros, length-append)

-- nine digits by the first, the next four and the last four
pub nine_parts : (n : ℕ) → n < 1_000_000_000
    → (decimal (n / 100_000_000) ++ zero_padded 4 (n % 100_000_000 / 10_000)) ++ zero_padded 4 (n % 100_000_000 % 10_000)
    ≡ fixed 9 n
nine_parts n h =
    let first = decimal_one (n / 100_000_000) (omega arith) in
    let last = four_and_four (n % 100_000_000) (omega arith) ∙ fixed-mod 8 n in
    let parts =
    ap (λ xs. xs ++ (zero_padded 4 (n % 100_000_000 / 10_000) ++ zero_padded 4 (n % 100_000_000 % 10_000))) first
    ∙ ap (λ ys. fixed 1 (n / 100_000_000) ++ ys) last ∙ sym (fixed-append 1 8 n) in
    rw append_assoc parts

pub ruleset nine_digits = (nine_parts, length-digit, four_zeros, length-append, append_assoc)

-- a number by its first digits and its last six
pub seven_parts : (n : ℕ) → n < 10_000_000 → decimal (n / 1_000_000) ++ zero_padded 6 (n % 1_000_000) ≡ fixed 7 n
seven_parts n h =
    let first = decimal_one (n / 1_000_000) (omega arith) in
    let last = zero_padded_is 5 (n % 1_000_000) (omega arith) (omega arith) ∙ fixed-mod 6 n in
    ap (λ xs. xs ++ zero_padded 6 (n % 1_000_000)) first ∙ ap (λ ys. fixed 1 (n / 1_000_000) ++ ys) last
    ∙ sym (fixed-append 1 6 n)

pub ruleset two_parts = (seven_parts, length-digit, six_zeros, length-append, append_assoc)

-- the decimals have no more bytes than their width
pub length-subsecond_text : (d : SubsecondDigits) (n : ℕ) → length (subsecond_text d n) ≤ subsecond_width d
length-subsecond_text d n = grind (arith, common_steps, length-trimmed_fraction, length-take)
