-- Texts of dates (ISO 8601-1:2019, 5.2.2 in the extended format), as `2026-11-22`.
use Rattle.std.specs.Prelude.{ℕ, ◌-◌, List, ◌++◌, length, replicate, codes, ℤ, unsigned_abs, nat_lt, if◌then◌else◌}
use Rattle.std.specs.Int.{is_negative}
use Rattle.std.specs.Fmt.{decimal}
use Rattle.time_below.specs.Calendar.{OrdinalDate, month_of, day_of}

-- a number in decimal digits, at least so many, with zeros before it
abbrev pub padded_decimal : ℕ → ℕ → List ℕ
padded_decimal digits n = replicate (digits - length (decimal n)) 48 ++ decimal n

-- the sign of a year that has one: those before 0, and those of more than four digits
abbrev pub year_sign : ℤ → List ℕ
year_sign y = if is_negative y then codes "-" else (if nat_lt 9999 (unsigned_abs y) then codes "+" else codes "")

-- the year, with at least four digits
abbrev pub year_text : ℤ → List ℕ
year_text y = year_sign y ++ padded_decimal 4 (unsigned_abs y)

-- the year, the month and the day, with a dash between them
abbrev pub date_text : OrdinalDate → List ℕ
date_text d =
    year_text d.year ++ codes "-" ++ padded_decimal 2 (month_of d) ++ codes "-" ++ padded_decimal 2 (day_of d)
