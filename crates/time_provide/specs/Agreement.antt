-- What a state may hold: nothing but components of the value that it is used for.
use Rattle.std.specs.Prelude.{◌≡◌, ℕ, Option, Some, None, IfSome}
use Rattle.time_below.specs.Facts.{DateFacts, date_facts}
use Rattle.time_below.specs.Moment.{Moment, utc_date, utc_time}
use Rattle.time_below.specs.Month.{month_number}
use Rattle.time_below.specs.declared.month.Month.{Month}
use Rattle.time_provide.specs.declared.date_state.DateState.{DateState}
use Rattle.time_provide.specs.declared.timestamp_state.TimestampState.{TimestampState}

-- each entry that is held is that component of the date
pub record Agrees (state : DateState) (date : DateFacts) : Type 0 where
  pub day : IfSome state.day (λ day. day ≡ date.day)
  pub month : IfSome state.month (λ month. month_number month ≡ date.month)
  pub iso_week : IfSome state.iso_week (λ week. week ≡ date.iso_week)
  pub iso_year : IfSome state.iso_year (λ year. year ≡ date.iso_year)

-- the state that holds a month and a day of the month, and nothing else
abbrev pub of_month_and_day : Month → ℕ → DateState
of_month_and_day month day =
    record { day = Some day; month = Some month; iso_week = None; iso_year = None }

-- the date and the time that are held are those of the moment in UTC, and so is what the date keeps
pub record AgreesWithMoment (state : TimestampState) (moment : Moment) : Type 0 where
  pub date : IfSome state.date (λ date. date ≡ utc_date moment.seconds)
  pub time : IfSome state.time (λ time. time ≡ utc_time moment)
  pub date_state : Agrees state.date_state (date_facts (utc_date moment.seconds))
