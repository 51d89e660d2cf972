-- The English names of months and weekdays, and what is read of a name.
use Rattle.std.specs.Prelude.{◌≡◌, ℕ, ◌-◌, List, [], ◌∷◌, codes, slice_index_or, Result, MatchResult}
use Rattle.time_below.specs.declared.invalid_variant.InvalidVariant.{InvalidVariant}

abbrev pub month_names : List (List ℕ)
month_names =
    codes "January" ∷ codes "February" ∷ codes "March" ∷ codes "April" ∷ codes "May" ∷ codes "June"
    ∷ codes "July" ∷ codes "August" ∷ codes "September" ∷ codes "October" ∷ codes "November"
    ∷ codes "December" ∷ []

-- the name of a month, 1 to 12
abbrev pub month_name : ℕ → List ℕ
month_name month = slice_index_or month_names (month - 1) []

abbrev pub weekday_names : List (List ℕ)
weekday_names =
    codes "Monday" ∷ codes "Tuesday" ∷ codes "Wednesday" ∷ codes "Thursday" ∷ codes "Friday"
    ∷ codes "Saturday" ∷ codes "Sunday" ∷ []

-- the name of a weekday, by the days from Monday, 0 to 6
abbrev pub weekday_name : ℕ → List ℕ
weekday_name weekday = slice_index_or weekday_names weekday []

-- what is read of a text: the value that has it as its name, or the refusal of a text that names
-- none
abbrev pub IsNamed : {T : Type 0} → (T → List ℕ) → List ℕ → Result T InvalidVariant → Type 0
IsNamed {T} name text read =
    MatchResult read (λ found. name found ≡ text) (λ _. (other : T) → ¬ (name other ≡ text))
