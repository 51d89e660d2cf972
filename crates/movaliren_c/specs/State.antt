-- What is known of the date of a moment's parts before anything is computed.
use Rattle.std.specs.Prelude.{◌≡◌, ℕ}
use Rattle.time_below.specs.Month.{month_number}
use Rattle.time_below.specs.declared.month.Month.{Month}
use Rattle.time_provide.specs.Agreement.{of_month_and_day}
use Rattle.time_provide.specs.declared.date_state.DateState.{DateState}

-- a month of this number and this day of the month are known, and nothing else
abbrev pub IsDateState : ℕ → ℕ → DateState → Type 0
IsDateState number day state =
    (month : Month) × (month_number month ≡ number) × (state ≡ of_month_and_day month day)
