use Rattle.std.proofs.Common.{ℕ, ◌≤◌, unsigned_abs, arith, ℤ, w8, to_z, of_z}
use Rattle.std.proofs.lemmas.Int.{to_z-of_z}
use Rattle.time_below.proofs.utc_offset.UtcOffset.from_ranged_hms.Goals as goal
use Rattle.std.proofs.lemmas.Grind.{common_steps}

-- the parts as the code holds them
abbrev held_part : ℤ → ℤ
held_part part = to_z w8 (of_z w8 part)

-- a part within its range is held as it is
kept : (greatest : ℕ) (part : ℤ) → greatest ≤ 59 → unsigned_abs part ≤ greatest → unsigned_abs (held_part part) ≤ greatest
kept greatest part small h = grind (arith, to_z-of_z)

pub invariant_of-result : goal.invariant_of-result
invariant_of-result c = grind (arith, common_steps, to_z-of_z, kept)
