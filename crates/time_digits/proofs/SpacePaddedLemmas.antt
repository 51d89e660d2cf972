-- The table of pairs with spaces: its entries are what the definitions say.
use Rattle.std.proofs.Common.{◌≡◌, ℕ, ◌*◌, ◌<◌, take, drop, map, refl}
use Rattle.std.specs.List.{range_with_len}
use Rattle.std.specs.Fmt.{digits}
use Rattle.time_digits.specs.Digits.{padded, space_padded}
use Rattle.time_digits.proofs.LengthLemmas.{length-decimal_two, length-padded}
use Rattle.time_digits.proofs.SingleDigitLemmas.{single_digit_at}
use Rattle.time_digits.proofs.TableLemmas.{same_below}
use Rattle.time_digits.proofs.ZeroPaddedLemmas.{zero_padded_pair_at}
use Rattle.time_digits.specs.declared.tables.TheConstants.{SPACE_PADDED_PAIRS}

-- each pair with spaces is at twice its number
each_space_padded_pair : map (λ n. take 2 (drop (2 * n) SPACE_PADDED_PAIRS.now)) (range_with_len 0 100)
    ≡ map (space_padded 2) (range_with_len 0 100)
unfolding digits padded
each_space_padded_pair = refl

pub space_padded_pair_at : (n : ℕ) → n < 100 → take 2 (drop (2 * n) SPACE_PADDED_PAIRS.now) ≡ space_padded 2 n
space_padded_pair_at n h =
    same_below (λ k. take 2 (drop (2 * k) SPACE_PADDED_PAIRS.now)) (space_padded 2) 100 each_space_padded_pair n h

-- lemmas for the calls that borrow from the table
pub ruleset space_facts = (space_padded_pair_at, length-decimal_two, length-padded)

-- the entries of the three tables
pub ruleset entries_of_tables = (single_digit_at, zero_padded_pair_at, space_padded_pair_at)
