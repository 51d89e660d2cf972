use Rattle.std.proofs.Common.{◌≡◌, refl, sym, ap, subst, rules}
use Rattle.jiff.specs.ZonedView.{plain_zoned, zoned_date, zoned_nanos, zoned_time}
use Rattle.time_below.proofs.MomentLemmas.{IsDate-utc_date, IsTimeOfDay-utc_time}
use Rattle.time_below.specs.Calendar.{IsDate}
use Rattle.time_below.specs.Moment.{DateAndTime, OffsetDateAndTime, IsMoment, moved}
use Rattle.time_below.specs.Offset.{offset_seconds}
use Rattle.time_below.specs.TimeOfDay.{IsTimeOfDay}
use Rattle.time_jiff.proofs.CalendarLemmas.{same_clock}
use Rattle.time_jiff.proofs.offset_date_time.Goals as goal
use Rattle.time_jiff.specs.Same.{local_nanoseconds, same_date, same_time}

-- the clock shows what the zone shows
clock : (c : goal.In-Some)
    → ◌≡◌ {A = DateAndTime} (record { date = same_date (zoned_date c.args.zoned.now); time = same_time (zoned_time c.args.zoned.now); offset = tt })
    (record { date = c.in-Some.shown.date; time = c.in-Some.shown.time; offset = tt })
clock c =
    let m = moved c.timestamp-2.result c.offset-2.result in
    let real : IsMoment m = (c.in-Some.ensures.accepted.0 refl, c.timestamp-2.ensures.real.1) in
    let value = sym c.in-Some.ensures.value in
    let moment : zoned_nanos c.args.zoned.now ≡ local_nanoseconds c.in-Some.shown = sym (search rules) in
    let offset : (plain_zoned c.args.zoned.now).offset.seconds ≡ offset_seconds c.in-Some.shown.offset = sym (search rules) in
    same_clock c.args.zoned.now c.in-Some.shown
    (subst (λ (t : OffsetDateAndTime). IsDate t.date) value (IsDate-utc_date m real))
    (subst (λ (t : OffsetDateAndTime). IsTimeOfDay t.time) value (IsTimeOfDay-utc_time m real)) moment offset

pub returns-clause-date : goal.returns-clause-date
returns-clause-date c = sym (ap (λ (t : DateAndTime). t.date) (clock c))

pub returns-clause-time : goal.returns-clause-time
returns-clause-time c = sym (ap (λ (t : DateAndTime). t.time) (clock c))
