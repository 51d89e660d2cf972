-- The parts of a value give that value.
use Rattle.std.proofs.Common.{◌≡◌, ℤ, pos, Ok, arith}
use Rattle.std.proofs.lemmas.Bool.Decides.{nat_tests}
use Rattle.std.proofs.lemmas.Bool.{le-leb, lt-ltb}
use Rattle.movaliren_c.specs.Value.{date_value, moment_value, offset_of_parts, offset_value, time_of_parts}
use Rattle.movaliren_c.specs.declared.values.moment.Moment.{Moment}
use Rattle.time_below.specs.Calendar.{IsDate, day_of, month_of}
use Rattle.time_below.specs.Moment.{OffsetDateAndTime}
use Rattle.time_below.specs.Offset.{HasNoOtherSign, IsOffset, Offset}
use Rattle.time_below.specs.TimeOfDay.{IsTimeOfDay}
use Rattle.time_below.proofs.MonthLemmas.{date_of-month_and_day, day_of_date, month_of_date}
use Rattle.std.proofs.lemmas.Grind.{common_steps}

-- ---- a value of parts

of_zero : (x : ℤ) → HasNoOtherSign (pos 0) x
of_zero x = (λ above. absurd above.lt, λ below. absurd below.lt)

pub offset_given : (m : Moment) (o : Offset) → offset_of_parts m ≡ o → IsOffset o → offset_value m ≡ Ok o
offset_given m o is real = grind (arith, common_steps, le-leb, nat_tests, of_zero)

pub value_of_parts : (m : Moment) (v : OffsetDateAndTime) → m.year ≡ v.date.year → m.month ≡ month_of v.date
    → m.day ≡ day_of v.date → time_of_parts m ≡ v.time → offset_of_parts m ≡ v.offset → IsDate v.date
    → IsTimeOfDay v.time → IsOffset v.offset → moment_value m ≡ Ok v
unfolding moment_value date_value
value_of_parts m v p q r time offset is_date is_time is_offset =
    grind (arith, le-leb, lt-ltb, month_of_date, day_of_date, date_of-month_and_day, offset_given)
