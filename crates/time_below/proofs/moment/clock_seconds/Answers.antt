use Rattle.std.proofs.Common.{◌∙◌, ◌+ℤ◌, ap}
use Rattle.time_below.proofs.MomentLemmas.{held_by_clocks, clocks_within}
use Rattle.time_below.proofs.moment.clock_seconds.Goals as goal

pub returns-clause-value : goal.returns-clause-value
returns-clause-value c =
    let ahead = c.whole_seconds.ensures in
    held_by_clocks c.args.seconds c.whole_seconds.result c.requires ahead.range
    ∙ ap (λ o. c.args.seconds +ℤ o) ahead.value

pub returns-clause-range : goal.returns-clause-range
returns-clause-range c =
    let ahead = c.whole_seconds.ensures.range in
    rw (held_by_clocks c.args.seconds c.whole_seconds.result c.requires ahead)
    (clocks_within c.args.seconds c.whole_seconds.result c.requires ahead)
