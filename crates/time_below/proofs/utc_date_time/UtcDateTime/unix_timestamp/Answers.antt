use Rattle.std.proofs.Common.{arith, sym, subst}
use Rattle.time_below.specs.Moment.{IsTimestampSecond}
use Rattle.time_below.proofs.MomentLemmas.{held_in_day, second_in_day}
use Rattle.time_below.proofs.utc_date_time.UtcDateTime.unix_timestamp.Goals as goal

pub returns-clause-value : goal.returns-clause-value
returns-clause-value c = grind (arith, held_in_day)

pub returns-clause-range : goal.returns-clause-range
returns-clause-range c =
    let midnight = c.unix_midnight.ensures in
    let passed = c.seconds_from_midnight.ensures.range in
    subst IsTimestampSecond (sym (held_in_day c.unix_midnight.result c.seconds_from_midnight.result midnight.start passed))
    (second_in_day c.unix_midnight.result c.seconds_from_midnight.result midnight.start midnight.end passed)
