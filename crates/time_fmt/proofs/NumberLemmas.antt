-- How long the texts of numbers of a known size are.
use Rattle.std.proofs.Common.{◌≡◌, ◌∙◌, ℕ, ◌+◌, ◌/◌, ◌%◌, ◌^◌, ◌<◌, ◌≤◌, ◌++◌, length, decimal, ap₂, sym, arith}
use Rattle.std.proofs.Common.{length-append, append_assoc}
use Rattle.std.proofs.lemmas.Fmt.{length-decimal-le}
use Rattle.time_below.specs.declared.format_description.modifier.Padding.{Padding}
use Rattle.time_digits.specs.Digits.{fixed, zero_padded}
use Rattle.time_digits.proofs.DigitLemmas.{decimal-split, fixed-append, fixed-mod, length-fixed, zero_padded_is}
use Rattle.time_digits.proofs.LengthLemmas.{length-decimal_word, length-decimal_quotient}
use Rattle.time_fmt.specs.Text.{padded_text}
use Rattle.time_fmt.proofs.TextLemmas.{places_of, length-padded_text, two_places, length-sign_text}

-- a number below 10,000 has at most four digits
pub four_digits : (n : ℕ) → n < 10_000 → length (decimal n) ≤ 4
four_digits n h = length-decimal-le 4 n (omega arith) (omega arith) (omega arith)

-- a number below 10,000 fits four places
pub four_places : (p : Padding) (n : ℕ) → n < 10_000 → length (padded_text p 4 n) ≤ 4
four_places p n h = length-padded_text p 4 4 n (omega arith) (four_digits n h)

-- zeros fill two places
pub two_zeros : (n : ℕ) → n < 100 → length (zero_padded 2 n) ≡ 2
two_zeros n h = places_of 2 n (length-decimal-le 2 n (omega arith) (omega arith) (omega arith))

-- a number below 10,000 has four digits with zeros
pub four_zeros : (n : ℕ) → n < 10_000 → length (zero_padded 4 n) ≡ 4
four_zeros n h = places_of 4 n (four_digits n h)

-- a number below 100,000 has five digits with zeros
pub five_zeros : (n : ℕ) → n < 100_000 → length (zero_padded 5 n) ≡ 5
five_zeros n h = places_of 5 n (length-decimal-le 5 n (omega arith) (omega arith) (omega arith))

-- a number below 1,000,000 has six digits with zeros
pub six_zeros : (n : ℕ) → n < 1_000_000 → length (zero_padded 6 n) ≡ 6
six_zeros n h = places_of 6 n (length-decimal-le 6 n (omega arith) (omega arith) (omega arith))

pub ruleset number_lengths = (
  two_places,
  four_digits,
  four_places,
  places_of,
  four_zeros,
  five_zeros,
  six_zeros,
  length-decimal_word,
  length-sign_text,
)

-- eight digits are four and four
pub four_and_four : (n : ℕ) → n < 100_000_000 → zero_padded 4 (n / 10_000) ++ zero_padded 4 (n % 10_000) ≡ fixed 8 n
four_and_four n h =
    let first = zero_padded_is 3 (n / 10_000) (omega arith) (omega arith) in
    let last = zero_padded_is 3 (n % 10_000) (omega arith) (omega arith) ∙ fixed-mod 4 n in
    ap₂ (λ xs ys. xs ++ ys) first last ∙ sym (fixed-append 4 4 n)

-- a number by its first digits and its last eight
pub before_eight : (n : ℕ) → 100_000_000 ≤ n → n < 2 ^ 64
    → decimal (n / 100_000_000) ++ fixed 8 (n % 100_000_000) ≡ decimal n
before_eight n low high = grind (arith, fixed-mod, decimal-split)

-- it has eight more than they have
pub longer_by_eight : (n : ℕ) → 100_000_000 ≤ n → n < 2 ^ 64
    → length (decimal n) ≡ length (decimal (n / 100_000_000)) + 8
longer_by_eight = length-decimal_quotient 8

-- a number by its first digits and its last four
pub before_four : (n : ℕ) → 10_000 ≤ n → n < 2 ^ 64
    → decimal (n / 10_000) ++ zero_padded 4 (n % 10_000) ≡ decimal n
before_four n low high = grind (arith, zero_padded_is, fixed-mod, decimal-split)

-- it has four more than they have
pub longer_by_four : (n : ℕ) → 10_000 ≤ n → n < 2 ^ 64 → length (decimal n) ≡ length (decimal (n / 10_000)) + 4
longer_by_four = length-decimal_quotient 4

pub ruleset four_after = (before_four, longer_by_four, four_zeros, length-append, append_assoc)

pub ruleset eight_digits = (four_and_four, four_zeros, length-append, append_assoc)

pub ruleset eight_after = (before_eight, longer_by_eight, length-fixed, length-append, append_assoc)
