-- The table of magnitudes: its entries are what the definitions say.
use Rattle.std.proofs.Common.{◌≡◌, ◌+◌, ◌-◌, ◌*◌, ◌<◌, ◌≤◌, take, drop, map, refl, ◌∙◌, ap, arith}
use Rattle.std.proofs.Common.{ℤ, pos, negsuc, ◌+ℤ◌, unsigned_abs}
use Rattle.std.specs.List.{range_with_len}
use Rattle.std.specs.Fmt.{digits}
use Rattle.time_digits.specs.Digits.{padded, zero_padded}
use Rattle.time_digits.proofs.LengthLemmas.{length-decimal_two, length-padded}
use Rattle.time_digits.proofs.TableLemmas.{same_below}
use Rattle.time_digits.specs.declared.tables.TheConstants.{MAGNITUDE_PAIRS}

-- each pair is that of the distance of its place from 59
each_magnitude_pair : map (λ n. take 2 (drop (2 * n) MAGNITUDE_PAIRS.now)) (range_with_len 0 119)
    ≡ map (λ n. zero_padded 2 ((n - 59) + (59 - n))) (range_with_len 0 119)
unfolding digits padded
each_magnitude_pair = refl

-- which is the magnitude of the number
distance : (z : ℤ) → unsigned_abs z ≤ 59
    → let n = unsigned_abs (z +ℤ pos 59) in (n < 119) × ((n - 59) + (59 - n) ≡ unsigned_abs z)
distance (pos k) h = grind arith
distance (negsuc k) h = grind arith

pub magnitude_pair_at : (z : ℤ) → unsigned_abs z ≤ 59
    → take 2 (drop (2 * unsigned_abs (z +ℤ pos 59)) MAGNITUDE_PAIRS.now) ≡ zero_padded 2 (unsigned_abs z)
magnitude_pair_at z h =
    let is = distance z h in
    same_below (λ k. take 2 (drop (2 * k) MAGNITUDE_PAIRS.now)) (λ k. zero_padded 2 ((k - 59) + (59 - k))) 119
    each_magnitude_pair (unsigned_abs (z +ℤ pos 59)) is.0 ∙ ap (zero_padded 2) is.1

-- lemmas for the calls that borrow from the table
pub ruleset magnitude_facts = (magnitude_pair_at, length-decimal_two, length-padded)
