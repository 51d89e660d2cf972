-- Which moments the texts of descriptions have, read back.
use Rattle.std.specs.Prelude.{ℕ, zero, suc, ℤ, pos, ◌≡◌, ◌==◌, ◌+◌, ◌&&◌, ◌||◌, ◌+ℤ◌, ◌-ℤ◌, ◌≤ℤ◌, ◌<ℤ◌, ◌<◌, ◌≤◌, ◌⊎◌, List, [], ◌∷◌, Option, Some, None, IfNone, IfSome, Bool, not, true, false, length, take, drop, get_or, if◌then◌else◌}
use Rattle.std.specs.Char.{is_ascii_digit}
use Rattle.time_below.specs.Calendar.{IsYear, IsDayOfMonth, date_of, day_of, month_of}
use Rattle.time_below.specs.Facts.{Facts, facts_of_offset_date_time, facts_of_plain_date_time, facts_of_timestamp}
use Rattle.time_below.specs.Moment.{DateAndTime, Moment, OffsetDateAndTime, day_seconds, local_moment, utc_date}
use Rattle.time_fmt.specs.Description.{trees_outcome}
use Rattle.time_fmt.specs.Outcome.{Outcome, done}
use Rattle.time_lines.specs.Read.{IsMomentIfReal}
use Rattle.time_lines.specs.declared.described.Form.{Form}
use Rattle.time_lines.specs.declared.described.Form.TheVariants.{AtOffset, AtMoment, Local, Yearless}
use Rattle.time_lines.specs.declared.described.FormRow.{FormRow}
use Rattle.time_lines.specs.declared.described.Meant.{Meant}
use Rattle.time_lines.specs.declared.front.Front.{Front}
use Rattle.time_lines.specs.declared.passed.Why.{Why}
use Rattle.time_lines.specs.declared.passed.Why.TheVariants.{NoMoment, NoLocalMoment, NoDay, Decimals, Offset}
use Rattle.time_lines.specs.declared.until.Years.{Years}
use Rattle.time_lines.specs.declared.until.Years.TheVariants.{One, Latest}
use Rattle.time_lines.specs.declared.until.Until.{Until}
use Rattle.time_plan.specs.Steps.{step_trees}
use Rattle.time_plan.specs.declared.plan.Plan.{Plan}

-- what a plan writes of a value
abbrev pub written : Plan → Facts → Outcome
written plan = trees_outcome (step_trees plan.steps.items)

-- so many first bytes of the text are the complete text of an outcome
abbrev pub IsFront : Outcome → List ℕ → ℕ → Type 0
IsFront outcome text count = (count ≤ length text) × (outcome ≡ done (take count text))

-- so many first bytes end with a digit, and another one follows
abbrev pub is_cut : List ℕ → ℕ → Bool
is_cut text zero = false
is_cut text (suc count) = is_ascii_digit (get_or text count 0) && is_ascii_digit (get_or text (count + 1) 0)

-- whether a text begins with decimals: a point (46) or a comma (44), and a digit
abbrev pub has_decimals : List ℕ → Bool
has_decimals (b ∷ c ∷ rest) = ((b == 46) || (b == 44)) && is_ascii_digit c
has_decimals text = false

-- whether a text begins with a sign (43, 45) and two digits
abbrev pub has_hours : List ℕ → Bool
has_hours (b ∷ c ∷ d ∷ rest) = ((b == 43) || (b == 45)) && (is_ascii_digit c && is_ascii_digit d)
has_hours text = false

-- whether a text begins with an offset: with `Z` or `z` (90, 122), or with a sign and two digits, perhaps behind a space (32)
abbrev pub has_offset_here : List ℕ → Bool
has_offset_here [] = false
has_offset_here (b ∷ rest) =
    ((b == 90) || (b == 122)) || (if b == 32 then has_hours rest else has_hours (b ∷ rest))

-- the year has the month and the day of the date
abbrev pub HasDay : ℤ → DateAndTime → Type 0
HasDay year t = IsYear year × IsDayOfMonth year (month_of t.date) (day_of t.date)

-- the same month, day and time of another year
abbrev pub in_year : ℤ → DateAndTime → DateAndTime
in_year year t = record { date = date_of year (month_of t.date) (day_of t.date); time = t.time; offset = tt }

-- how many years are tried: in any so many that follow one another a leap year is
abbrev pub years_tried : ℕ
years_tried = 10

-- the years that are tried begin with the next one
abbrev pub tried_year : Until → ℕ → ℤ
tried_year until back = (until.year +ℤ pos 1) -ℤ pos back

-- this moment is that of the date and time in the year, and not later than the second
abbrev pub IsPastIn : (DateAndTime → Option Moment → Type 0) → ℤ → ℤ → DateAndTime → Moment → Type 0
IsPastIn at second year t m = HasDay year t × at (in_year year t) (Some m) × (m.seconds ≤ℤ second)

-- in the year there is no such moment
abbrev pub NoPastIn : (DateAndTime → Option Moment → Type 0) → ℤ → ℤ → DateAndTime → Type 0
NoPastIn at second year t =
    HasDay year t → (found : Option Moment) × at (in_year year t) found × IfSome found (λ m. second <ℤ m.seconds)

-- in none of the first so many years
abbrev pub NoPastBefore : (DateAndTime → Option Moment → Type 0) → Until → DateAndTime → ℕ → Type 0
NoPastBefore at until t bound = (back : ℕ) → back < bound → NoPastIn at until.second (tried_year until back) t

-- the moment of a date and time of which the year is not known
abbrev pub HasYearlessMoment : (DateAndTime → Option Moment → Type 0) → Years → DateAndTime → Option Moment → Type 0
HasYearlessMoment at (One year) t found =
    (HasDay year t × at (in_year year t) found) ⊎ ((HasDay year t → ⊥) × (found ≡ None))
HasYearlessMoment at (Latest until) t found =
    ((back : ℕ) × (m : Moment) × (found ≡ Some m) × IsPastIn at until.second (tried_year until back) t m
    × (back < years_tried) × NoPastBefore at until t back)
    ⊎ ((found ≡ None) × NoPastBefore at until t years_tried)

-- the plan of a form
abbrev pub plan_of : Form → Plan
plan_of (AtOffset reader) = reader.plan.now
plan_of (AtMoment reader) = reader.plan.now
plan_of (Local reader) = reader.plan.now
plan_of (Yearless reader) = reader.plan.now

-- whether the moment of a form's texts is the one at which a clock shows them
abbrev pub is_by_clock : Form → Bool
is_by_clock (Local reader) = true
is_by_clock (Yearless reader) = true
is_by_clock form = false

-- whether the texts of a form show their offset
abbrev pub has_offset : Form → Bool
has_offset (AtOffset reader) = true
has_offset form = false

-- why a date and time without a year has no moment, if it has none: the year does not have its day, or no clock shows it
abbrev pub IsLackIn : Years → DateAndTime → Why → Type 0
IsLackIn (One year) t why = (HasDay year t → why ≡ NoLocalMoment) × ((HasDay year t → ⊥) → why ≡ NoDay)
IsLackIn (Latest until) t why = why ≡ NoLocalMoment

-- the plan of a form writes so many first bytes of the text of a value that has the moment, or has none for the reason
abbrev pub ReadsForm : (DateAndTime → Option Moment → Type 0) → Years → Form → List ℕ → Meant → Type 0
ReadsForm at years (AtOffset reader) text meant =
    (v : OffsetDateAndTime) × IsFront (written reader.plan.now (facts_of_offset_date_time v)) text meant.count
    × IsMomentIfReal (local_moment v) meant.moment × (meant.lacks ≡ NoMoment)
ReadsForm at years (AtMoment reader) text meant =
    (m : Moment) × IsFront (written reader.plan.now (facts_of_timestamp m)) text meant.count × (meant.moment ≡ Some m)
ReadsForm at years (Local reader) text meant =
    (t : DateAndTime) × IsFront (written reader.plan.now (facts_of_plain_date_time t)) text meant.count × at t meant.moment
    × (meant.lacks ≡ NoLocalMoment)
ReadsForm at years (Yearless reader) text meant =
    (t : DateAndTime) × IsFront (written reader.plan.now (facts_of_plain_date_time t)) text meant.count
    × HasYearlessMoment at years t meant.moment × IsLackIn years t meant.lacks

-- whether so many first bytes end with a digit
abbrev pub ends_with_digit : List ℕ → ℕ → Bool
ends_with_digit text zero = false
ends_with_digit text (suc count) = is_ascii_digit (get_or text count 0)

-- whether the texts of a form have no decimals of a second, and no offset
abbrev pub is_to_second : FormRow → Bool
is_to_second row = elim row.decimals [
  | Some decimals ↦ (decimals == 0) && not (has_offset row.form)
  | None ↦ false
]

-- whether decimals follow a text of so many bytes that ends at its second
abbrev pub lacks_decimals : FormRow → List ℕ → ℕ → Bool
lacks_decimals row text count =
    is_to_second row && (ends_with_digit text count && has_decimals (drop count text))

-- whether an offset follows a text of so many bytes whose moment is that of a clock
abbrev pub lacks_offset : FormRow → List ℕ → ℕ → Bool
lacks_offset row text count = is_by_clock row.form && has_offset_here (drop count text)

-- what follows a text of so many bytes, if it is of the same time and the form does not have it
abbrev pub more_behind : FormRow → List ℕ → ℕ → Option Why
more_behind row text count =
    if lacks_decimals row text count then Some Decimals else if lacks_offset row text count then Some Offset else None

-- what is read of a text: it has no moment where more of its time follows it
pub record IsFrontOf (more : Option Why) (meant : Meant) (front : Front) : Type 0 where
  pub count : front.count ≡ meant.count
  pub whole : IfNone more ((front.moment ≡ meant.moment) × (front.lacks ≡ meant.lacks))
  pub cut : IfSome more (λ why. (front.moment ≡ None) × (front.lacks ≡ why))

-- a text of the form is read, where no number is cut off
abbrev pub ReadsRow : (DateAndTime → Option Moment → Type 0) → Years → FormRow → List ℕ → Front → Type 0
ReadsRow at years row text front =
    (meant : Meant) × ReadsForm at years row.form text meant × (is_cut text meant.count ≡ false)
    × (meant.count ≤ length text) × IsFrontOf (more_behind row text meant.count) meant front

-- the same of one of several forms
abbrev pub ReadsOneOf : (DateAndTime → Option Moment → Type 0) → Years → List FormRow → List ℕ → Front → Type 0
ReadsOneOf at years [] text front = ⊥
ReadsOneOf at years (row ∷ rows) text front = ReadsRow at years row text front ⊎ ReadsOneOf at years rows text front

-- the latest year in which a moment is at most a day after this one
abbrev pub IsUntilDayAfter : Moment → Years → Type 0
IsUntilDayAfter now (One year) = ⊥
IsUntilDayAfter now (Latest until) = (until.year ≡ (utc_date now.seconds).year) × (until.second ≡ now.seconds +ℤ pos day_seconds)
