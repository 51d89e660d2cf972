-- What a line becomes whose numbers are Unix time.
use Rattle.std.specs.Prelude.{ℕ, zero, suc, ◌≡◌, ◌+◌, ◌-◌, ◌≤◌, ◌++◌, ◌⊎◌, ◌&&◌, Bool, false, List, Option, Some, None, IfNone, IfSome, length, take, drop, option_map, if◌then◌else◌}
use Rattle.memchr.specs.Find.{FindsNeedle}
use Rattle.time_below.specs.Moment.{Moment}
use Rattle.time_lines.specs.Json.{has_exponent, is_value_at, quotes_if}
use Rattle.time_lines.specs.Number.{HasMoment, decimals_shown, digit_count, moment_of, number_at, number_start, unit_for}
use Rattle.time_lines.specs.Shown.{Replaces}
use Rattle.time_lines.specs.Window.{is_time_at}
use Rattle.time_lines.specs.declared.number.Numbers.{Numbers}
use Rattle.time_lines.specs.declared.unix.FoundNumber.{FoundNumber}

-- the bytes from one place to another
abbrev pub between : ℕ → ℕ → List ℕ → List ℕ
between at to line = take (to - at) (drop at line)

-- the moment of the number whose digits begin here, by its unit
abbrev pub moment_of_time : Numbers → List ℕ → ℕ → Moment
moment_of_time numbers line start = moment_of (unit_for numbers.unit (digit_count (drop start line))) (number_at line start)

-- how many decimals of a second that number has
abbrev pub decimals_at : Numbers → List ℕ → ℕ → ℕ
decimals_at numbers line start =
    decimals_shown (unit_for numbers.unit (digit_count (drop start line))) (length (number_at line start).decimals)

-- whether that number is a value of JSON, whose text is put in quotes
abbrev pub is_quoted : Numbers → List ℕ → ℕ → Bool
is_quoted numbers line start = numbers.is_json && is_value_at line start

-- the number names a moment, and it is no value of JSON with an exponent
abbrev pub HasText : Numbers → List ℕ → ℕ → Type 0
HasText numbers line start =
    HasMoment (unit_for numbers.unit (digit_count (drop start line))) (number_at line start)
    × ((is_quoted numbers line start && has_exponent (drop (number_at line start).end line)) ≡ false)

-- the number of a line whose digits begin here, as it was found
pub record IsFoundNumber (numbers : Numbers) (line : List ℕ) (start : ℕ) (found : FoundNumber) : Type 0 where
  pub first : found.first ≡ (number_at line start).first
  pub end : found.end ≡ (number_at line start).end
  pub value : found.is_value ≡ is_quoted numbers line start
  pub decimals : found.decimals ≡ decimals_at numbers line start
  pub some : IfSome found.moment (λ m. (m ≡ moment_of_time numbers line start) × HasText numbers line start)
  pub none : IfNone found.moment (¬ HasText numbers line start)
  pub order : found.first ≤ found.end
  pub inside : found.end ≤ length line

-- what becomes of the bytes from a place to the end of the number whose digits begin at another: what is shown of its moment
-- takes the place of the number, with its quotes
abbrev pub PieceBecomes : (ℕ → Moment → Option (List ℕ) → Type 0) → Numbers → List ℕ → ℕ → ℕ → List ℕ → Type 0
PieceBecomes shows numbers line at start text =
    let number = number_at line start in
    let before = between at number.first line in
    let quotes = quotes_if (is_quoted numbers line start) in
    Replaces (shows (decimals_at numbers line start)) (HasText numbers line start) (moment_of_time numbers line start) (before ++ quotes) quotes
    (before ++ between number.first number.end line) text

-- what becomes of the bytes from a place on, where at most so many numbers from another place on are replaced
abbrev pub RestBecomes : (ℕ → Moment → Option (List ℕ) → Type 0) → Numbers → ℕ → List ℕ → ℕ → ℕ → List ℕ → Type 0
RestBecomes shows numbers zero line at from text = text ≡ drop at line
RestBecomes shows numbers (suc more) line at from text =
    ((number_start (is_time_at numbers line) line from ≡ None) × (text ≡ drop at line))
    ⊎ ((start : ℕ) × (piece : List ℕ) × (rest : List ℕ) × (number_start (is_time_at numbers line) line from ≡ Some start)
    × (text ≡ piece ++ rest) × PieceBecomes shows numbers line at start piece
    × RestBecomes shows numbers more line (number_at line start).end (number_at line start).end rest)

-- from which place on numbers are looked for: the start of the line, or behind the first occurrence of a text
abbrev pub LooksFrom : Option (List ℕ) → List ℕ → Option ℕ → Type 0
LooksFrom None line from = from ≡ Some 0
LooksFrom (Some text) line from =
    (found : Option ℕ) × FindsNeedle line text 0 found × (from ≡ option_map (λ at. at + length text) found)

-- what a line becomes whose numbers are looked for from a place on: one is replaced, or each
abbrev pub FromBecomes : (ℕ → Moment → Option (List ℕ) → Type 0) → Numbers → Option ℕ → List ℕ → List ℕ → Type 0
FromBecomes shows numbers None line text = text ≡ line
FromBecomes shows numbers (Some from) line text =
    RestBecomes shows numbers (if numbers.is_all then length line else 1) line 0 from text

abbrev pub UnixBecomes : (ℕ → Moment → Option (List ℕ) → Type 0) → Numbers → Option (List ℕ) → List ℕ → List ℕ → Type 0
UnixBecomes shows numbers after line text =
    (from : Option ℕ) × LooksFrom after line from × FromBecomes shows numbers from line text
