-- The months of the calendar.
use Rattle.std.specs.Prelude.{◌≡◌, ℕ, Result, MatchResult, codes}
use Rattle.std.specs.Int.{IsInRange}
use Rattle.time_below.specs.ComponentRange.{range_refusal, unconditional_range}
use Rattle.time_below.specs.declared.component_range.ComponentRange.{ComponentRange}
use Rattle.time_below.specs.declared.month.Month.{Month}
use Rattle.time_below.specs.declared.month.Month.TheVariants.{January, February, March, April, May, June, July, August}
use Rattle.time_below.specs.declared.month.Month.TheVariants.{September, October, November, December}

-- the number of a month, 1 to 12
abbrev pub month_number : Month → ℕ
month_number January = 1
month_number February = 2
month_number March = 3
month_number April = 4
month_number May = 5
month_number June = 6
month_number July = 7
month_number August = 8
month_number September = 9
month_number October = 10
month_number November = 11
month_number December = 12

-- what is made of a number: the month of that number, or the refusal of one that is not from 1 to 12
abbrev pub IsMadeOf : ℕ → Result Month ComponentRange → Type 0
IsMadeOf number made =
    MatchResult made (λ month. month_number month ≡ number)
    (λ refusal. (¬ IsInRange 1 12 number) × (range_refusal refusal ≡ unconditional_range (codes "month")))
