-- The table of pairs with zeros: its entries are what the definitions say.
use Rattle.std.proofs.Common.{◌≡◌, ℕ, ◌+◌, ◌*◌, ◌<◌, ◌≤◌, take, drop, map, refl, ◌∙◌, arith, decimal}
use Rattle.std.specs.List.{range_with_len}
use Rattle.std.specs.Fmt.{digits}
use Rattle.time_digits.specs.Digits.{padded, zero_padded}
use Rattle.time_digits.proofs.DigitLemmas.{padded_whole}
use Rattle.time_digits.proofs.LengthLemmas.{some_digit, decimal_longer, length-digit, length-decimal_two, length-padded}
use Rattle.time_digits.proofs.TableLemmas.{same_below}
use Rattle.time_digits.specs.declared.tables.TheConstants.{ZERO_PADDED_PAIRS}

-- each pair with zeros is at twice its number
each_zero_padded_pair : map (λ n. take 2 (drop (2 * n) ZERO_PADDED_PAIRS.now)) (range_with_len 0 100)
    ≡ map (zero_padded 2) (range_with_len 0 100)
unfolding digits padded
each_zero_padded_pair = refl

pub zero_padded_pair_at : (n : ℕ) → n < 100 → take 2 (drop (2 * n) ZERO_PADDED_PAIRS.now) ≡ zero_padded 2 n
zero_padded_pair_at n h =
    same_below (λ k. take 2 (drop (2 * k) ZERO_PADDED_PAIRS.now)) (zero_padded 2) 100 each_zero_padded_pair n h

-- the last digit of its pair is the text of a number below 10
each_last_digit : map (λ n. take 1 (drop (2 * n + 1) ZERO_PADDED_PAIRS.now)) (range_with_len 0 10)
    ≡ map decimal (range_with_len 0 10)
unfolding digits
each_last_digit = refl

pub last_digit_at : (n : ℕ) → n < 10 → take 1 (drop (2 * n + 1) ZERO_PADDED_PAIRS.now) ≡ decimal n
last_digit_at n h = same_below (λ k. take 1 (drop (2 * k + 1) ZERO_PADDED_PAIRS.now)) decimal 10 each_last_digit n h

-- both digits of its pair are the text of a number from 10 on
pub both_digits_at : (n : ℕ) → 10 ≤ n → n < 100 → take 2 (drop (2 * n) ZERO_PADDED_PAIRS.now) ≡ decimal n
both_digits_at n low high =
    zero_padded_pair_at n high ∙ padded_whole 48 2 n (omega (arith, decimal_longer 1 n low (omega arith)))

-- lemmas for the calls that borrow two places of the table
pub ruleset pair_facts = (zero_padded_pair_at, length-decimal_two, length-padded)

-- lemmas for the calls that borrow a number's digits of the table
pub ruleset number_facts = (last_digit_at, both_digits_at, length-digit, length-decimal_two, some_digit)
