-- Dates and times of day with a byte between each two parts.
use Rattle.std.specs.Prelude.{ℕ, false, List, [], ◌∷◌, ◌++◌}
use Rattle.time_below.specs.declared.format_description.component.Component.{Component}
use Rattle.time_below.specs.declared.format_description.modifier.Padding.TheVariants as padding
use Rattle.time_below.specs.Facts.{DateFacts}
use Rattle.time_below.specs.TimeOfDay.{TimeOfDay}
use Rattle.time_below.specs.Tree.{Tree, text_literal, of_component, all_of, end, more}
use Rattle.time_below.specs.UsualParts.{year_part, month_part, day_part, hour_part, minute_part, second_part}
use Rattle.time_fmt.specs.declared.runs.Run.{Run}
use Rattle.time_fmt.specs.declared.runs.Run.TheVariants as run
use Rattle.time_fmt.specs.Kind.{kind_text, extended_year}
use Rattle.time_fmt.specs.Text.{padded_text}

-- two numbers in two places, each behind its byte
abbrev pub two_after : ℕ → ℕ → ℕ → ℕ → List ℕ
two_after x m y n = x ∷ (padded_text padding.Zero 2 m ++ (y ∷ padded_text padding.Zero 2 n))

-- the year of a date, with its sign and at least four digits
abbrev pub year_text : DateFacts → List ℕ
year_text d = kind_text (extended_year padding.Zero false d.year)

-- the year, the month and the day
abbrev pub date_run : ℕ → ℕ → DateFacts → List ℕ
date_run x y d = year_text d ++ two_after x d.month y d.day

-- the hour, the minute and the second
abbrev pub time_run : ℕ → ℕ → TimeOfDay → List ℕ
time_run x y t = padded_text padding.Zero 2 t.hour ++ two_after x t.minute y t.second

-- three components, and a text of one byte between each two
abbrev pub three_parts : Component → ℕ → Component → ℕ → Component → Tree
three_parts p first q second r =
    all_of (more (of_component p) (more (text_literal (first ∷ []))
    (more (of_component q) (more (text_literal (second ∷ []))
    (more (of_component r) end)))))

-- what a run is short for
abbrev pub run_tree : Run → Tree
run_tree (run.Date between) = three_parts year_part between.first month_part between.second day_part
run_tree (run.Time between) = three_parts hour_part between.first minute_part between.second second_part
