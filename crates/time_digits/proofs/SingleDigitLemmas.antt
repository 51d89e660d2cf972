-- The table of digits: its entries are what the definition says.
use Rattle.std.proofs.Common.{◌≡◌, ℕ, ◌<◌, take, drop, map, refl, decimal}
use Rattle.std.specs.List.{range_with_len}
use Rattle.std.specs.Fmt.{digits}
use Rattle.time_digits.proofs.LengthLemmas.{length-digit}
use Rattle.time_digits.proofs.TableLemmas.{same_below}
use Rattle.time_digits.specs.declared.tables.TheConstants.{SINGLE_DIGITS}

-- each digit is at its own place
each_single_digit : map (λ n. take 1 (drop n SINGLE_DIGITS.now)) (range_with_len 0 10)
    ≡ map decimal (range_with_len 0 10)
unfolding digits
each_single_digit = refl

pub single_digit_at : (n : ℕ) → n < 10 → take 1 (drop n SINGLE_DIGITS.now) ≡ decimal n
single_digit_at n h = same_below (λ k. take 1 (drop k SINGLE_DIGITS.now)) decimal 10 each_single_digit n h

-- lemmas for the calls that borrow from the table
pub ruleset digit_facts = (single_digit_at, length-digit)
