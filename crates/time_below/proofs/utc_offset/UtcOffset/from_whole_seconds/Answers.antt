use Rattle.std.proofs.Common.{ℤ, w8, to_z, of_z, rules, arith}
use Rattle.time_below.proofs.OffsetLemmas.{offset_back}
use Rattle.time_below.proofs.utc_offset.UtcOffset.from_whole_seconds.Goals as goal
use Rattle.std.proofs.lemmas.Grind.{common_steps}

-- a part as the code holds it
abbrev held_part : ℤ → ℤ
held_part part = to_z w8 (of_z w8 part)

pub returns-clause-seconds : goal.returns-clause-seconds
returns-clause-seconds c = search (rules, arith, common_steps, offset_back)
