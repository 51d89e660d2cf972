use Rattle.std.proofs.Common.{◌∙◌, ◌+◌, ◌/◌, pos, arith}
use Rattle.std.specs.Prelude.{◌≤ℤ◌, ◌<ℤ◌}
use Rattle.std.proofs.lemmas.Int.{ints}
use Rattle.time_below.proofs.MomentLemmas.{held_thousands, thousands_within, rounded_down, rounded_up}
use Rattle.time_below.proofs.moment.milliseconds.Goals as goal

pub returns-then-seconds-ge0-clause-value : goal.returns-then-seconds-ge0-clause-value
returns-then-seconds-ge0-clause-value c =
    let from_1970 : pos 0 ≤ℤ c.args.seconds = omega (arith, ints) in
    held_thousands c.args.seconds _ c.requires.0 (omega arith)
    ∙ rounded_down c.args.seconds c.args.nanosecond from_1970

pub returns-then-seconds-ge0-clause-range : goal.returns-then-seconds-ge0-clause-range
returns-then-seconds-ge0-clause-range c =
    rw (held_thousands c.args.seconds (c.args.nanosecond / 1_000_000) c.requires.0 (omega arith))
    (thousands_within c.args.seconds (c.args.nanosecond / 1_000_000) c.requires.0 (omega arith))

pub returns-else-seconds-ge0-clause-value : goal.returns-else-seconds-ge0-clause-value
returns-else-seconds-ge0-clause-value c =
    let before_1970 : c.args.seconds <ℤ pos 0 = omega (arith, ints) in
    held_thousands c.args.seconds _ c.requires.0 (omega arith)
    ∙ rounded_up c.args.seconds c.args.nanosecond before_1970 c.requires.1

pub returns-else-seconds-ge0-clause-range : goal.returns-else-seconds-ge0-clause-range
returns-else-seconds-ge0-clause-range c =
    let more = (c.args.nanosecond + 999_999) / 1_000_000 in
    rw (held_thousands c.args.seconds more c.requires.0 (omega arith))
    (thousands_within c.args.seconds more c.requires.0 (omega arith))
