-- How long numbers and decimals of ISO 8601 are: what functions that write them name.
use Rattle.std.proofs.Common.{◌≡◌, ℕ, ◌+◌, ◌-◌, ◌/◌, ◌<◌, ◌≤◌, true, length, length-append, append_assoc, decimal}
use Rattle.std.proofs.Common.{refl, sym, ap, ◌∙◌, arith, take, replicate}
use Rattle.std.proofs.lemmas.Fmt.{length-decimal-le}
use Rattle.std.proofs.lemmas.List.{length-replicate, replicate-append-replicate, take-append-le, take_all}
use Rattle.time_digits.specs.Digits.{is_ascii, zero_padded}
use Rattle.time_digits.proofs.DigitLemmas.{decimal_one, length-fixed, padded_whole}
use Rattle.time_digits.proofs.LengthLemmas.{length-padded, length-digit}
use Rattle.time_fmt.specs.Decimals.{decimals}
use Rattle.time_fmt.proofs.TextLemmas.{length-sign_text}
use Rattle.time_fmt.proofs.DecimalLemmas.{three_of_second, six_of_second}
use Rattle.time_known.specs.Config.{decimal_sign_text, DecimalSign}
use Rattle.time_known.specs.declared.iso8601.time.TheConstants.{ZEROS}
use Rattle.std.proofs.lemmas.Grind.{common_steps}

-- ---- lengths

-- a number below 1,000 in three places
pub length-three_digits : (n : ℕ) → n < 1_000 → length (zero_padded 3 n) ≡ 3
length-three_digits n h = length-padded 48 3 n (length-decimal-le 3 n (omega arith) (omega arith) (omega arith))

-- a number below 1,000,000 in six places
pub length-six_digits : (n : ℕ) → n < 1_000_000 → length (zero_padded 6 n) ≡ 6
length-six_digits n h = length-padded 48 6 n (length-decimal-le 6 n (omega arith) (omega arith) (omega arith))

-- a number of one digit has no zero in front
pub padded_digit : (n : ℕ) → n < 10 → zero_padded 1 n ≡ decimal n
padded_digit n h = padded_whole 48 1 n (omega (arith, length-digit n h))

-- how long the numbers of a date are, one after another
pub ruleset date_lengths = (length-three_digits, length-six_digits, padded_digit, length-digit, length-sign_text, length-append, append_assoc)

-- the decimal sign is one byte
pub length-decimal_sign : (s : DecimalSign) → length (decimal_sign_text s) ≡ 1
length-decimal_sign s = grind (arith, common_steps)

-- the first decimal of a second
pub one_of_second : (n : ℕ) → n < 1_000_000_000 → decimal (n / 100_000_000) ≡ decimals n 1_000_000_000 1
one_of_second n h = grind (arith, decimal_one)

-- the table has 246 zeros
zeros_are : ZEROS.now ≡ replicate 246 48
zeros_are = refl

pub zeros_ascii : is_ascii ZEROS.now ≡ true
zeros_ascii = refl

pub zeros_length : length ZEROS.now ≡ 246
zeros_length = refl

-- the first of them
pub first_zeros : (k : ℕ) → k ≤ 246 → take k ZEROS.now ≡ replicate k 48
first_zeros k h =
    let zeros = replicate {A = ℕ} k 48 in
    let size = length-replicate {A = ℕ} k 48 in
    let more : k + (246 - k) ≡ 246 = omega arith in
    ap (take k) (zeros_are ∙ ap (λ (n : ℕ). replicate n 48) (sym more) ∙ sym (replicate-append-replicate k (246 - k) 48))
    ∙ take-append-le k zeros (replicate (246 - k) 48) (omega (arith, size)) ∙ take_all k zeros (omega (arith, size))

-- how long the table is, and that it is ASCII
pub ruleset table_of_zeros = (zeros_ascii, zeros_length, length-fixed)

-- what the first digits of a nanosecond are decimals of
pub ruleset decimals_of_second = (one_of_second, three_of_second, six_of_second, length-digit)

-- how long decimals and their sign are
pub ruleset decimal_lengths = (length-fixed, length-decimal_sign, length-append, append_assoc)
