use Rattle.std.proofs.Common.{◌∙◌, ap, subst}
use Rattle.time_below.specs.Moment.{local_unix_seconds}
use Rattle.time_below.specs.TimeOfDay.{TimeOfDay, IsTimeOfDay}
use Rattle.time_jiff.proofs.MomentLemmas.{nanoseconds_of_parts}
use Rattle.time_jiff.proofs.nanoseconds_at.Goals as goal

pub returns-clause-value : goal.returns-clause-value
returns-clause-value c =
    let time : IsTimeOfDay c.args.moment.time = subst IsTimeOfDay c.time.ensures c.as_hms_nano-nanosecond.ensures.range in
    nanoseconds_of_parts c.unix_timestamp.result (local_unix_seconds c.args.moment) c.as_hms_nano-nanosecond.result.3
    c.args.moment.time.nanosecond c.unix_timestamp.ensures.range time.3 c.unix_timestamp.ensures.value
    (c.as_hms_nano-nanosecond.ensures.nanosecond ∙ ap (λ (t : TimeOfDay). t.nanosecond) c.time.ensures)
