-- The words of a reason.
use Rattle.std.specs.Prelude.{ℕ, ◌+◌, ◌≤◌, ℤ, pos, ◌==◌, int_lt, unsigned_abs, List, [], ◌∷◌, length, codes, if◌then◌else◌, Ok}
use Rattle.movaliren_c.specs.Answer.{IsAnswer}
use Rattle.time_fmt.specs.Outcome.{done}

-- the words of a number, where they are counted on from the first, or else these
abbrev pub counted : ℕ → List (List ℕ) → List ℕ → ℕ → List ℕ
counted first [] other n = other
counted first (words ∷ rest) other n = if n == first then words else counted (first + 1) rest other n

-- those of a reason whose number is below zero, by its size: 21 and 22 are none that a call returns
unfoldable pub words_numbered : ℕ → List ℕ
words_numbered n = counted 1 (
    codes "the year is outside -999999 to 999999"
    ∷ codes "the month is outside 1 to 12"
    ∷ codes "the month has no such day"
    ∷ codes "the hour is outside 0 to 23"
    ∷ codes "the minute is outside 0 to 59"
    ∷ codes "the second is outside 0 to 59"
    ∷ codes "the nanosecond is outside 0 to 999999999"
    ∷ codes "the hours of the offset are outside -25 to 25"
    ∷ codes "the minutes of the offset are outside -59 to 59, or of another sign than its hours"
    ∷ codes "the seconds of the offset are outside -59 to 59, or of another sign than its hours or minutes"
    ∷ codes "the seconds are outside the years -999999 to 999999"
    ∷ codes "the format cannot represent the year"
    ∷ codes "the format cannot represent the hours of the offset"
    ∷ codes "the format cannot represent the minutes of the offset"
    ∷ codes "the format cannot represent the seconds of the offset"
    ∷ codes "the value lacks a component of the format"
    ∷ codes "a component is outside the range of its item"
    ∷ codes "invalid configuration value"
    ∷ codes "invalid item"
    ∷ codes "the text does not fit the buffer"
    ∷ codes "unknown error"
    ∷ codes "unknown error"
    ∷ codes "the text is not one of the format"
    ∷ codes "the text is not a description"
    ∷ codes "the description has more items than there is room for"
    ∷ codes "the texts do not determine a moment"
    ∷ []) (codes "unknown error") n

-- those of any number
abbrev pub error_words : ℤ → List ℕ
error_words number = if int_lt number (pos 0) then words_numbered (unsigned_abs number) else codes "no error"

-- words of at most 128 bytes are written, or they do not fit the buffer, which is then unchanged
abbrev pub IsSaid : ℤ → List ℕ → List ℕ → Type 0
IsSaid number before after = (words : List ℕ) × (length words ≤ 128) × IsAnswer (Ok (done words)) number before after
