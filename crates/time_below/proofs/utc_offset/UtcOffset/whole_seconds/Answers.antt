use Rattle.std.proofs.Common.{arith}
use Rattle.time_below.proofs.OffsetLemmas.{held_byte, held_word, minutes_within, seconds_within, seconds_of_parts}
use Rattle.time_below.proofs.utc_offset.UtcOffset.whole_seconds.Goals as goal

pub returns-clause-value : goal.returns-clause-value
returns-clause-value c =
    let o = c.self.inside in
    let parts = c.self.invariant.0 in
    let minutes =
    rw (held_byte o.hours (omega arith), held_word o.hours (omega arith), held_byte o.minutes (omega arith))
    at c.sixtieths.ensures.value in
    let small = minutes_within o.hours o.minutes c.sixtieths.result parts.0 parts.1 minutes in
    let seconds =
    rw (held_word c.sixtieths.result (omega (arith, small)), held_byte o.seconds (omega arith))
    at c.sixtieths-2.ensures.value in
    let less = seconds_within c.sixtieths.result o.seconds c.sixtieths-2.result small parts.2 seconds in
    rw (← c.self.view_is, held_word c.sixtieths-2.result (omega (arith, less)))
    (seconds_of_parts o.hours o.minutes o.seconds c.sixtieths.result c.sixtieths-2.result minutes seconds)
