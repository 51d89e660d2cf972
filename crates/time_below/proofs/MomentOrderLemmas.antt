-- Dates and times in UTC are in the order of their moments.
use Rattle.std.proofs.Common.{◌≡◌, ℕ, ◌+◌, ◌*◌, ap, sym, ◌∙◌, arith, rules, ℤ, pos, ◌+ℤ◌, unsigned_abs}
use Rattle.std.proofs.Common.{Bool, IsTrue, int_eq}
use Rattle.std.specs.Prelude.{◌↔◌, ◌&&◌, ◌==◌}
use Rattle.std.proofs.lemmas.Grind.{common_steps}
use Rattle.std.proofs.lemmas.Int.{ints}
use Rattle.std.proofs.lemmas.Bool.Decides.{nat_tests}
use Rattle.std.specs.declared.cmp.Ordering.{Ordering}
use Rattle.std.specs.declared.cmp.Ordering.TheVariants.{Less}
use Rattle.std.specs.Ordering.{nat_cmp, int_cmp, ordering_then}
use Rattle.time_below.specs.Calendar.{OrdinalDate, IsDate, day_number, days_before}
use Rattle.time_below.specs.Moment.{Moment, DateAndTime, IsBefore, moment_of, unix_seconds, day_seconds}
use Rattle.time_below.specs.TimeOfDay.{TimeOfDay, IsTimeOfDay, seconds_from_midnight}
use Rattle.time_below.proofs.DateOrderLemmas.{date_cmp}
use Rattle.time_below.proofs.MomentLemmas.{same_date_and_time, within_day}
use Rattle.time_below.proofs.OrderLemmas.{then_equal, clock_cmp, total_cmp, pair_cmp, pair_less, moment_order}
use Rattle.time_below.proofs.YearLemmas.{days_from_start, IsDayNumber-day_number}

-- numbers keep their order when they are counted from another start
int_cmp_shifted : (y z : ℤ) (m n c : ℕ) → y +ℤ pos c ≡ pos m → z +ℤ pos c ≡ pos n → int_cmp y z ≡ nat_cmp m n
int_cmp_shifted y z m n c e f = grind (arith, common_steps, nat_tests, ints)

-- the days and the seconds from -999999-01-01
abbrev days_of : DateAndTime → ℕ
days_of v = unsigned_abs (day_number v.date +ℤ pos days_before)

abbrev total_of : DateAndTime → ℕ
total_of v = 86_400 * days_of v + seconds_from_midnight v.time

-- the days are those of the day number, which are not before the start
days_counted : (v : DateAndTime) → IsDate v.date → day_number v.date +ℤ pos days_before ≡ pos (days_of v)
days_counted v h = days_from_start (day_number v.date) (IsDayNumber-day_number v.date h)

-- the parts of a time are compared one after the other
abbrev time_cmp : TimeOfDay → TimeOfDay → Ordering
time_cmp t u =
    ordering_then (nat_cmp t.hour u.hour)
    (ordering_then (nat_cmp t.minute u.minute)
    (ordering_then (nat_cmp t.second u.second) (nat_cmp t.nanosecond u.nanosecond)))

-- the parts of a date are compared, and then those of the time
abbrev parts_cmp : DateAndTime → DateAndTime → Ordering
parts_cmp v w =
    ordering_then (ordering_then (int_cmp v.date.year w.date.year) (nat_cmp v.date.ordinal w.date.ordinal))
    (time_cmp v.time w.time)

-- the parts compare as the seconds, and then the nanoseconds
parts_total : (v w : DateAndTime) → IsDate v.date → IsDate w.date → IsTimeOfDay v.time → IsTimeOfDay w.time
    → parts_cmp v w ≡ pair_cmp (total_of v) (total_of w) v.time.nanosecond w.time.nanosecond
parts_total v w h k t u =
    let rest = nat_cmp v.time.nanosecond w.time.nanosecond in
    ap (λ o. ordering_then o (time_cmp v.time w.time))
    (date_cmp v.date w.date h k
    ∙ int_cmp_shifted (day_number v.date) (day_number w.date) (days_of v) (days_of w) days_before (days_counted v h)
    (days_counted w k))
    ∙ ap (ordering_then (nat_cmp (days_of v) (days_of w)))
    (clock_cmp v.time.hour w.time.hour v.time.minute w.time.minute v.time.second w.time.second rest t.1 u.1 t.2 u.2)
    ∙ total_cmp (days_of v) (days_of w) (seconds_from_midnight v.time) (seconds_from_midnight w.time) rest
    (within_day v.time t) (within_day w.time u)
    ∙ ap (ordering_then (nat_cmp (total_of v) (total_of w))) (sym (then_equal rest))

-- the seconds since 1970, counted from -999999-01-01
seconds_from_start : (v : DateAndTime) → IsDate v.date
    → unix_seconds v +ℤ pos (day_seconds * 365_961_662) ≡ pos (total_of v)
seconds_from_start v h = omega (arith, ints, days_counted v h)

-- one date and time is before another exactly if its moment is
pub dates_and_times_in_order : (v w : DateAndTime) → IsDate v.date → IsDate w.date → IsTimeOfDay v.time
    → IsTimeOfDay w.time → parts_cmp v w ≡ Less ↔ IsBefore (moment_of v) (moment_of w)
dates_and_times_in_order v w h k t u =
    let e = parts_total v w h k t u in
    let p = pair_less (total_of v) (total_of w) v.time.nanosecond w.time.nanosecond in
    let m = moment_order v.time.nanosecond w.time.nanosecond (unix_seconds v) (unix_seconds w)
    (total_of v) (total_of w) (day_seconds * 365_961_662) (seconds_from_start v h) (seconds_from_start w k) in
    (λ b. m.0 (p.0 (sym e ∙ b)), λ b. e ∙ p.1 (m.1 b))

-- ---- moments

-- moments are in the order of their seconds, and then of their nanoseconds
pub moment_less : (m n : Moment)
    → ordering_then (int_cmp m.seconds n.seconds) (nat_cmp m.nanosecond n.nanosecond) ≡ Less ↔ IsBefore m n
moment_less m n = search rules

-- moments are equal if their parts are
pub moment_equal : (m n : Moment)
    → IsTrue (int_eq m.seconds n.seconds && (m.nanosecond == n.nanosecond)) ↔ (m ≡ n)
moment_equal m n = search rules

-- ---- equal dates and times

-- both of two tests
both_true : (p q : Bool) → IsTrue (p && q) ↔ (IsTrue p × IsTrue q)
both_true p q = search rules

-- dates are equal if their parts are
date_equal : (d e : OrdinalDate) → IsTrue (int_eq d.year e.year && (d.ordinal == e.ordinal)) ↔ (d ≡ e)
date_equal d e = search rules

-- times are equal if their parts are
time_equal : (t u : TimeOfDay)
    → IsTrue ((t.hour == u.hour) && ((t.minute == u.minute)
    && ((t.second == u.second) && (t.nanosecond == u.nanosecond)))) ↔ (t ≡ u)
time_equal t u = search rules

-- dates and times are equal if their parts are
pub date_and_time_equal : (v w : DateAndTime)
    → IsTrue ((int_eq v.date.year w.date.year && (v.date.ordinal == w.date.ordinal))
    && ((v.time.hour == w.time.hour) && ((v.time.minute == w.time.minute)
    && ((v.time.second == w.time.second) && (v.time.nanosecond == w.time.nanosecond))))) ↔ (v ≡ w)
date_and_time_equal v w =
    let both = both_true _ _ in
    let dates = date_equal v.date w.date in
    let times = time_equal v.time w.time in (
      λ e. same_date_and_time v.date w.date v.time w.time (dates.0 (both.0 e).0) (times.0 (both.0 e).1),
      λ e. both.1 (dates.1 (ap (λ (x : DateAndTime). x.date) e), times.1 (ap (λ (x : DateAndTime). x.time) e)),
    )
