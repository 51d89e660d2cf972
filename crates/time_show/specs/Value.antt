-- The values that the numbers of a line give, if each is in the range of its part.
use Rattle.std.specs.Prelude.{ℕ, ℤ, pos, negsuc, Option, Some, List, [], ◌∷◌, Result, Ok, Err, codes, nat_le, ◌&&◌}
use Rattle.std.specs.Prelude.{unsigned_abs, if◌then◌else◌}
use Rattle.time_below.specs.Calendar.{OrdinalDate, date_of, days_in_month, is_leap_year}
use Rattle.time_below.specs.Moment.{DateAndTime, OffsetDateAndTime}
use Rattle.time_below.specs.Offset.{Offset, settled}
use Rattle.time_below.specs.TimeOfDay.{TimeOfDay}
use Rattle.time_show.specs.declared.value.NoValue.{NoValue}
use Rattle.time_show.specs.declared.value.NoValue.TheVariants.{BadLine, OutOfRange}
use Rattle.time_show.specs.declared.value.ValuePart.{ValuePart}
use Rattle.time_show.specs.declared.value.ValuePart.TheVariants.{Year, Month, Day, Hour, Minute, Second, Nanosecond, Hours}
use Rattle.time_show.specs.declared.value.ValuePart.TheVariants.{Minutes, Seconds}

-- the name of a part in its refusal
abbrev pub part_name : ValuePart → List ℕ
part_name Year = codes "year"
part_name Month = codes "month"
part_name Day = codes "day"
part_name Hour = codes "hour"
part_name Minute = codes "minute"
part_name Second = codes "second"
part_name Nanosecond = codes "nanosecond"
part_name Hours = codes "hours"
part_name Minutes = codes "minutes"
part_name Seconds = codes "seconds"

-- the number, if it is one of least to greatest, or the part that it is out of range for
abbrev pub natural_part : ValuePart → ℕ → ℕ → ℤ → Result ℕ NoValue
natural_part part least greatest (pos n) =
    if nat_le least n && nat_le n greatest then Ok n else Err (OutOfRange part)
natural_part part least greatest (negsuc n) = Err (OutOfRange part)

-- the number, if it is at most so far from zero, or the part that it is out of range for
abbrev pub signed_part : ValuePart → ℕ → ℤ → Result ℤ NoValue
signed_part part greatest number =
    if nat_le (unsigned_abs number) greatest then Ok number else Err (OutOfRange part)

-- what comes of a value, if there is one
abbrev pub with_value : {A B : Type 0} → Result A NoValue → (A → Result B NoValue) → Result B NoValue
with_value (Ok value) next = next value
with_value (Err why) next = Err why

abbrev pub date_of_numbers : ℤ → ℤ → ℤ → Result OrdinalDate NoValue
date_of_numbers year month day =
    with_value (signed_part Year 999_999 year) (λ y.
    with_value (natural_part Month 1 12 month) (λ m.
    with_value (natural_part Day 1 (days_in_month (is_leap_year y) m) day) (λ d.
    Ok (date_of y m d))))

abbrev pub time_of_numbers : ℤ → ℤ → ℤ → ℤ → Result TimeOfDay NoValue
time_of_numbers hour minute second nanosecond =
    with_value (natural_part Hour 0 23 hour) (λ h.
    with_value (natural_part Minute 0 59 minute) (λ m.
    with_value (natural_part Second 0 59 second) (λ s.
    with_value (natural_part Nanosecond 0 999_999_999 nanosecond) (λ n.
    Ok (record { hour = h; minute = m; second = s; nanosecond = n })))))

-- where signs differ, the first number that is not zero, of hours, minutes and seconds, decides the sign
abbrev pub offset_of_numbers : ℤ → ℤ → ℤ → Result Offset NoValue
offset_of_numbers hours minutes seconds =
    with_value (signed_part Hours 25 hours) (λ h.
    with_value (signed_part Minutes 59 minutes) (λ m.
    with_value (signed_part Seconds 59 seconds) (λ s.
    Ok (settled h m s))))

-- `h m s n`
abbrev pub time_value : Option (List ℤ) → Result TimeOfDay NoValue
time_value (Some (hour ∷ minute ∷ second ∷ nanosecond ∷ [])) = time_of_numbers hour minute second nanosecond
time_value _ = Err BadLine

-- `Y Mo D h m s n oh om os`, whose ranges are tested in this order
abbrev pub date_time_value : Option (List ℤ) → Result OffsetDateAndTime NoValue
date_time_value (Some (year ∷ month ∷ day ∷ hour ∷ minute ∷ second ∷ nanosecond ∷ hours ∷ minutes ∷ seconds ∷ [])) =
    with_value (date_of_numbers year month day) (λ date.
    with_value (time_of_numbers hour minute second nanosecond) (λ time.
    with_value (offset_of_numbers hours minutes seconds) (λ offset.
    Ok (record { date = date; time = time; offset = offset }))))
date_time_value _ = Err BadLine

-- `Y Mo D h m s n`, a date and time in UTC, without an offset
abbrev pub utc_date_time_value : Option (List ℤ) → Result DateAndTime NoValue
utc_date_time_value (Some (year ∷ month ∷ day ∷ hour ∷ minute ∷ second ∷ nanosecond ∷ [])) =
    with_value (date_of_numbers year month day) (λ date.
    with_value (time_of_numbers hour minute second nanosecond) (λ time.
    Ok (record { date = date; time = time; offset = tt })))
utc_date_time_value _ = Err BadLine
