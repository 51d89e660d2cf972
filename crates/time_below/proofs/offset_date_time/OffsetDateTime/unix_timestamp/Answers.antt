use Rattle.std.proofs.Common.{◌≡◌, ◌<◌, arith, ℤ, ◌-ℤ◌, unsigned_abs, w32, w64, to_z, of_z}
use Rattle.std.proofs.lemmas.Int.{ints}
use Rattle.time_below.specs.Moment.{IsTimestampSecond}
use Rattle.time_below.proofs.MomentLemmas.{held_second, held_small, near_timestamp_second}
use Rattle.time_below.proofs.OffsetLemmas.{held_word}
use Rattle.time_below.proofs.offset_date_time.OffsetDateTime.unix_timestamp.Goals as goal
use Rattle.std.proofs.lemmas.Grind.{common_steps}

-- the difference as the code holds it
abbrev held_difference : ℤ → ℤ → ℤ
held_difference s o =
    to_z w64 (of_z w64 (to_z w64 (of_z w64 s) -ℤ to_z w64 (of_z w64 (to_z w32 (of_z w32 o)))))

-- the difference fits, so the code holds it as it is
held_difference_is : (s o : ℤ) → IsTimestampSecond s → unsigned_abs o < 93_600 → held_difference s o ≡ s -ℤ o
held_difference_is s o h k =
    rw (held_second s h, held_word o (omega arith), held_small o (omega arith))
    (held_small (s -ℤ o) (omega (arith, ints)))

pub returns-clause-value : goal.returns-clause-value
returns-clause-value c = grind (arith, held_difference_is)

pub returns-clause-range : goal.returns-clause-range
returns-clause-range c = grind (arith, common_steps, held_difference_is, near_timestamp_second)
