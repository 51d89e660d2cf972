-- Dates and times of jiff.
use Rattle.std.proofs.Common.{◌≡◌, sym, subst}
use Rattle.jiff_core.specs.declared.civil.datetime.DateTime.{DateTime}
use Rattle.movaliren_cli.specs.LocalTime.{IsSame}
use Rattle.time_below.specs.Calendar.{day_of, month_of}
use Rattle.time_below.specs.Moment.{DateAndTime}
use Rattle.time_jiff.specs.Same.{same_time}

-- the date and time that was made is the same
pub made_same : (t : DateAndTime) (shown dt : DateTime) → dt ≡ shown → same_time shown.time ≡ t.time
    → (shown.date.year ≡ t.date.year) × (shown.date.month ≡ month_of t.date) × (shown.date.day ≡ day_of t.date)
    → IsSame t dt
made_same t shown dt is time date =
    subst (IsSame t) (sym is) (record { year = date.0; month = date.1; day = date.2; time = time })
