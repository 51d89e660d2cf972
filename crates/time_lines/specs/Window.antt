-- Which numbers of a line are times, by their digits and their seconds.
use Rattle.std.specs.Prelude.{ℕ, ℤ, ◌/◌, ◌^◌, pos, neg_ℤ, Bool, true, ◌&&◌, nat_le, nat_lt, int_le, List, Some, None, length, drop, if◌then◌else◌}
use Rattle.std.specs.Str.Parse.{digits_value}
use Rattle.time_lines.specs.Number.{digit_count, digits_of, has_minus, is_time, places_of, unit_for}
use Rattle.time_lines.specs.declared.number.Numbers.{Numbers}
use Rattle.time_lines.specs.declared.number.Window.{Window}

-- so many seconds before 1970 or after it
abbrev pub second_of : Bool → ℕ → ℤ
second_of is_negative seconds = if is_negative then neg_ℤ (pos seconds) else pos seconds

-- whether such a second is in the window, whose seconds have 64 bits
abbrev pub has_second : Window → Bool → ℕ → Bool
has_second window is_negative seconds =
    nat_lt seconds 0x8000_0000_0000_0000
    && (int_le window.first (second_of is_negative seconds) && int_le (second_of is_negative seconds) window.last)

-- whether the whole seconds of a number of these digits are in the window, if there is one
abbrev pub is_within : Numbers → Bool → List ℕ → Bool
is_within numbers is_negative digits = elim numbers.window [
  | None ↦ true
  | Some window ↦
      nat_le (length digits) 19
      && has_second window is_negative (digits_value 10 digits / 10 ^ places_of (unit_for numbers.unit (length digits)))
]

-- whether the number whose digits begin here is a time
abbrev pub is_time_at : Numbers → List ℕ → ℕ → Bool
is_time_at numbers line at =
    is_time numbers.unit numbers.least (digit_count (drop at line))
    && is_within numbers (has_minus line at) (digits_of (drop at line))
