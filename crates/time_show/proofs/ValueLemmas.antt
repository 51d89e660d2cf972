-- The values of numbers by their places.
use Rattle.std.proofs.Common.{ℕ, ℤ, pos, ◌≡◌, ◌≢◌, List, [], ◌∷◌, length, get_or, Option, Some, Ok, Err, refl, arith}
use Rattle.time_show.specs.declared.value.NoValue.TheVariants.{BadLine}
use Rattle.time_show.specs.Value.{date_of_numbers, time_of_numbers, offset_of_numbers, with_value}
use Rattle.time_show.specs.Value.{time_value, date_time_value, utc_date_time_value}

-- the list of numbers has another length, if each field spells one
abbrev pub AreNot : ℕ → Option (List ℤ) → Type 0
AreNot count numbers = (all : List ℤ) → numbers ≡ Some all → length all ≢ count

-- other numbers than four are no time of day
pub no_time : (numbers : Option (List ℤ)) → AreNot 4 numbers → time_value numbers ≡ Err BadLine
no_time (Some (a ∷ b ∷ c ∷ d ∷ [])) other = absurd (other (a ∷ b ∷ c ∷ d ∷ []) refl refl)
no_time numbers other = refl

-- other numbers than ten are no local date and time
pub no_date_time : (numbers : Option (List ℤ)) → AreNot 10 numbers → date_time_value numbers ≡ Err BadLine
no_date_time (Some (a ∷ b ∷ c ∷ d ∷ e ∷ f ∷ g ∷ h ∷ i ∷ j ∷ [])) other = absurd (other (a ∷ b ∷ c ∷ d ∷ e ∷ f ∷ g ∷ h ∷ i ∷ j ∷ []) refl refl)
no_date_time numbers other = refl

-- other numbers than seven are no date and time in UTC
pub no_utc_date_time : (numbers : Option (List ℤ)) → AreNot 7 numbers → utc_date_time_value numbers ≡ Err BadLine
no_utc_date_time (Some (a ∷ b ∷ c ∷ d ∷ e ∷ f ∷ g ∷ [])) other = absurd (other (a ∷ b ∷ c ∷ d ∷ e ∷ f ∷ g ∷ []) refl refl)
no_utc_date_time numbers other = refl

-- the number at a place
abbrev at : List ℤ → ℕ → ℤ
at all i = get_or all i (pos 0)

-- ten numbers are a date, a time of day and an offset
pub date_time_of_ten : (numbers : Option (List ℤ)) (all : List ℤ) → numbers ≡ Some all → length all ≡ 10 →
    date_time_value numbers ≡
    with_value (date_of_numbers (at all 0) (at all 1) (at all 2)) (λ date.
    with_value (time_of_numbers (at all 3) (at all 4) (at all 5) (at all 6)) (λ time.
    with_value (offset_of_numbers (at all 7) (at all 8) (at all 9)) (λ offset.
    Ok (record { date = date; time = time; offset = offset }))))
date_time_of_ten numbers (a ∷ b ∷ c ∷ d ∷ e ∷ f ∷ g ∷ h ∷ i ∷ j ∷ []) spell ten = rw spell refl
date_time_of_ten numbers all spell ten = absurd (omega arith)

-- seven numbers are a date and a time of day
pub utc_date_time_of_seven : (numbers : Option (List ℤ)) (all : List ℤ) → numbers ≡ Some all → length all ≡ 7 →
    utc_date_time_value numbers ≡
    with_value (date_of_numbers (at all 0) (at all 1) (at all 2)) (λ date.
    with_value (time_of_numbers (at all 3) (at all 4) (at all 5) (at all 6)) (λ time.
    Ok (record { date = date; time = time; offset = tt })))
utc_date_time_of_seven numbers (a ∷ b ∷ c ∷ d ∷ e ∷ f ∷ g ∷ []) spell seven = rw spell refl
utc_date_time_of_seven numbers all spell seven = absurd (omega arith)
