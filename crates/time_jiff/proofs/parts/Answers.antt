use Rattle.std.proofs.Common.{ap, arith}
use Rattle.std.proofs.lemmas.Int.{ints}
use Rattle.jiff_core.specs.declared.timestamp.Timestamp.{Timestamp}
use Rattle.time_jiff.proofs.MomentLemmas.{parts_of}
use Rattle.time_jiff.proofs.parts.Goals as goal

pub returns-clause-second : goal.returns-clause-second
returns-clause-second c =
    let p = parts_of _ _ c.to_plain-plain.result.in_range c.floor_second-second.ensures in omega (arith, ints, p.0)

pub returns-clause-nanosecond : goal.returns-clause-nanosecond
returns-clause-nanosecond c =
    let p = parts_of _ _ c.to_plain-plain.result.in_range c.floor_second-second.ensures in omega (arith, ints, p.0, p.1)

pub returns-clause-whole : goal.returns-clause-whole
returns-clause-whole c =
    let p = parts_of _ _ c.to_plain-plain.result.in_range c.floor_second-second.ensures in
    let e = ap (λ (t : Timestamp). t.nanosecond) c.to_plain-plain.ensures in omega (arith, ints, p.0, p.1, e)

pub overflow_sub-rest : goal.overflow_sub-rest
overflow_sub-rest c =
    let p = parts_of _ _ c.to_plain-plain.result.in_range c.floor_second-second.ensures in omega (arith, ints, p.0, p.1)

pub overflow_cast-result : goal.overflow_cast-result
overflow_cast-result c =
    let p = parts_of _ _ c.to_plain-plain.result.in_range c.floor_second-second.ensures in omega (arith, ints, p.0, p.1)
