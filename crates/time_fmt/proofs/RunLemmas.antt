-- How long dates and times of day are, and that they are what their parts give.
use Rattle.std.proofs.Common.{◌≡◌, ℕ, ◌≤◌, ◌∷◌, [], true, false, Ok, length, arith}
use Rattle.std.proofs.lemmas.List.{append-nil}
use Rattle.std.proofs.lemmas.Str.{IsUtf8-from_is_utf8}
use Rattle.std.specs.Prelude.{ℤ, is_some, unsigned_abs}
use Rattle.std.specs.Str.{is_utf8}
use Rattle.time_below.specs.declared.format_description.component.Component.{Component}
use Rattle.time_below.specs.declared.format_description.modifier.Padding.TheVariants as padding
use Rattle.time_below.specs.Facts.{Facts, the_date, the_time}
use Rattle.time_below.specs.Tree.{of_component, text_literal, more, end}
use Rattle.time_below.specs.UsualParts.{year_part, month_part, day_part, hour_part, minute_part, second_part}
use Rattle.time_below.specs.Width.{is_guaranteed_text}
use Rattle.time_fmt.specs.Description.{tree_outcome}
use Rattle.time_fmt.specs.Ends.{Ends}
use Rattle.time_fmt.specs.Guarantee.{IsTextIf}
use Rattle.time_fmt.specs.Kind.{kind_text, extended_year}
use Rattle.time_fmt.specs.Runs.{date_run, run_tree, three_parts, time_run}
use Rattle.time_fmt.specs.Sink.{Buffer, Puts}
use Rattle.time_fmt.specs.declared.runs.Run.{Run}
use Rattle.time_fmt.specs.declared.runs.Run.TheVariants as run
use Rattle.time_fmt.proofs.EndLemmas.{whole_text}
use Rattle.time_fmt.proofs.GuaranteeLemmas.{text_of_component, text_more, empty_utf8}
use Rattle.time_fmt.proofs.TextLemmas.{signed_four_to_six}

-- ---- lengths

-- a year
pub length-year : (year : ℤ) → unsigned_abs year ≤ 999_999
    → length (kind_text (extended_year padding.Zero false year)) ≤ 7
length-year year small = omega (arith, signed_four_to_six)

-- ---- outcomes

-- a date that was written is its year, its month and its day
pub date_ends : {count : ℕ} (x y : ℕ) (f : Facts) (old new : Buffer) → is_some f.date ≡ true → count ≤ 13
    → Puts old new count (date_run x y (the_date f))
    → Ends 13 old new (Ok tt) (tree_outcome (three_parts year_part x month_part y day_part) f)
date_ends x y f old new there most put = grind (arith, whole_text, append-nil)

-- so is a time of day its hour, its minute and its second
pub time_ends : {count : ℕ} (x y : ℕ) (f : Facts) (old new : Buffer) → is_some f.time ≡ true → count ≤ 8
    → Puts old new count (time_run x y (the_time f))
    → Ends 8 old new (Ok tt) (tree_outcome (three_parts hour_part x minute_part y second_part) f)
time_ends x y f old new there most put = grind (arith, whole_text, append-nil)

-- ---- texts

-- three components are a text where the bytes between them are
pub three_are_text : (p q r : Component) (first second : ℕ) (f : Facts) → is_utf8 (first ∷ []) ≡ true → is_utf8 (second ∷ []) ≡ true
    → IsTextIf (is_guaranteed_text (three_parts p first q second r)) (tree_outcome (three_parts p first q second r) f)
three_are_text p q r first second f is_first is_second =
    let third = more (of_component r) end in
    let from_second_byte = more (text_literal (second ∷ [])) third in
    let from_second = more (of_component q) from_second_byte in
    let from_first_byte = more (text_literal (first ∷ [])) from_second in
    text_more (of_component p) from_first_byte f (λ _. text_of_component p f)
    (text_more (text_literal (first ∷ [])) from_second f (λ _. IsUtf8-from_is_utf8 (first ∷ []) is_first)
    (text_more (of_component q) from_second_byte f (λ _. text_of_component q f)
    (text_more (text_literal (second ∷ [])) third f (λ _. IsUtf8-from_is_utf8 (second ∷ []) is_second)
    (text_more (of_component r) end f (λ _. text_of_component r f) (λ _. empty_utf8)))))

-- a run is a text
pub run_text : (r : Run) (f : Facts) → IsTextIf (is_guaranteed_text (run_tree r)) (tree_outcome (run_tree r) f)
run_text (run.Date b) f =
    three_are_text year_part month_part day_part b.first b.second f b.first_is_text b.second_is_text
run_text (run.Time b) f =
    three_are_text hour_part minute_part second_part b.first b.second f b.first_is_text b.second_is_text
