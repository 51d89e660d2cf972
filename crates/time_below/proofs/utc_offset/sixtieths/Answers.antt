use Rattle.std.proofs.Common.{◌≡◌, ◌≤◌, arith, unsigned_abs, w8, to_z, of_z}
use Rattle.std.proofs.lemmas.Int.{ints}
use Rattle.time_below.proofs.OffsetLemmas.{held_sixtieths, sixtieths_within}
use Rattle.time_below.proofs.utc_offset.sixtieths.Goals as goal

pub returns-clause-value : goal.returns-clause-value
returns-clause-value c =
    let part : to_z w8 (of_z w8 c.args.part) ≡ c.args.part = omega (arith, ints) in
    let small : unsigned_abs c.args.part ≤ 128 = omega (arith, ints) in
    rw part (held_sixtieths c.args.whole c.args.part c.requires small)

pub returns-clause-range : goal.returns-clause-range
returns-clause-range c = rw (returns-clause-value c) (sixtieths_within c.args.whole c.args.part)
