-- What a line becomes whose first text that is read is replaced.
use Rattle.std.specs.Prelude.{ℕ, ◌≡◌, ◌↔◌, ◌+◌, ◌<◌, ◌≤◌, ◌⊎◌, List, [], ◌∷◌, Option, Some, None, IfSome, IfNone, ◌||◌, ◌==◌, length, take, drop, min, true, is_some, if◌then◌else◌}
use Rattle.time_below.specs.Moment.{Moment, OffsetDateAndTime, IsMoment, local_moment}
use Rattle.time_lines.specs.Number.{decimals_of, digit_count}
use Rattle.time_lines.specs.Shown.{IsReplaced}
use Rattle.time_lines.specs.declared.front.Front.{Front}
use Rattle.time_read.specs.Lenient.{Rfc3339Means}

-- the same may be read at the front of a text as before
abbrev pub SameReads : (List ℕ → Option Front → Type 0) → (List ℕ → Option Front → Type 0) → Type 0
SameReads old new = (text : List ℕ) (front : Option Front) → old text front ↔ new text front

-- nothing is read before this place
abbrev pub NothingBefore : (List ℕ → Option Front → Type 0) → List ℕ → ℕ → Type 0
NothingBefore reads line bound = (at : ℕ) → at < bound → reads (drop at line) None

-- the first text of a line that is read, and its place
pub record IsFirstText (reads : List ℕ → Option Front → Type 0) (line : List ℕ) (at : ℕ) (front : Front) : Type 0 where
  pub is : reads (drop at line) (Some front)
  pub first : NothingBefore reads line at

-- what a line becomes: its first text is replaced, and one without stays as it is
abbrev pub ReadBecomes : (List ℕ → Option Front → Type 0) → (ℕ → Moment → Option (List ℕ) → Type 0) → List ℕ → List ℕ → Type 0
ReadBecomes reads shows line text =
    ((at : ℕ) × (front : Front) × IsFirstText reads line at front
    × IsReplaced (shows front.decimals) front.moment (take at line) (drop front.count (drop at line)) line text)
    ⊎ (NothingBefore reads line (length line) × (text ≡ line))

-- the moment is this one, if it is a moment that a timestamp may have
abbrev pub IsMomentIfReal : Moment → Option Moment → Type 0
IsMomentIfReal m found = IfSome found (λ n. (n ≡ m) × IsMoment n) × IfNone found (¬ IsMoment m)

-- what the first of two readers reads, or else the second one
abbrev pub ReadsFirstOf : (List ℕ → Option Front → Type 0) → (List ℕ → Option Front → Type 0) → List ℕ → Option Front → Type 0
ReadsFirstOf first second text found =
    (first text found × (is_some found ≡ true)) ⊎ (first text None × second text found)

-- ---- RFC 3339

-- no text of RFC 3339 begins the text
abbrev pub NoText : List ℕ → Type 0
NoText text = (count : ℕ) (v : OffsetDateAndTime) → count ≤ length text → ¬ Rfc3339Means v (take count text)

-- so many first bytes of the text are one of RFC 3339, with its moment and its decimals, of which nine count
abbrev pub ReadsRfc3339 : List ℕ → Option Front → Type 0
ReadsRfc3339 text None = NoText text
ReadsRfc3339 text (Some front) =
    (v : OffsetDateAndTime) × (front.count ≤ length text) × Rfc3339Means v (take front.count text)
    × IsMomentIfReal (local_moment v) front.moment
    × (front.decimals ≡ min (length (decimals_of (drop 19 text))) 9)

-- ---- where such a text ends, by its bytes

-- how many bytes an offset has that the text begins with: `Z` or `z` (90, 122) alone, or a sign, hours and minutes
abbrev pub offset_length : List ℕ → ℕ
offset_length [] = 0
offset_length (b ∷ text) = if (b == 90) || (b == 122) then 1 else 6

-- the same of decimals behind a point, if there are any, and an offset
abbrev pub tail_length : List ℕ → ℕ
tail_length [] = 0
tail_length (b ∷ text) =
    if b == 46 then 1 + (digit_count text + offset_length (drop (digit_count text) text)) else offset_length (b ∷ text)

-- and of a date and a time of 19 bytes before them
abbrev pub text_length : List ℕ → ℕ
text_length text = 19 + tail_length (drop 19 text)
