-- The texts of mail and of feeds that mean a text of RFC 2822, beside its grammar: the obsolete
-- forms of RFC 5322, section 4.3, comments and folding white space (sections 3.2.2 and 4.2), letters
-- in either case, `-0000` and second 60.
use Rattle.std.specs.Prelude.{◌≡◌, ◌≢◌, ◌⊎◌, ℕ, ◌+◌, ◌<◌, ◌≤◌, pos, min, true, ◌==◌, nat_lt}
use Rattle.std.specs.Prelude.{Option, Some, None, IfSome, List, [], ◌∷◌, codes, slice_index_or, length}
use Rattle.std.specs.Prelude.{if◌then◌else◌}
use Rattle.std.specs.Int.{IsInRange}
use Rattle.std.specs.Str.{str_to_ascii_lowercase}
use Rattle.time_below.specs.Calendar.{IsDayOfMonth, date_of, weekday_of}
use Rattle.time_below.specs.Offset.{signed_offset}
use Rattle.time_known.specs.Parts.{SignedOffset}
use Rattle.time_known.specs.Rfc2822Grammar.{day_names, month_names}
use Rattle.time_known.specs.Rules.{Rule, Digits, Literal, Name, ◌▹◌}
use Rattle.time_known.specs.Values.{OrdinalDate, OffsetDateAndTime, Offset, TimeOfDay, utc}
use Rattle.time_read.specs.Shapes.{Two}
use Rattle.time_read.specs.Space.{IsGap, IsSpace, Mark}

-- a text of the rule, with letters in either case
pub record AnyCase (P : Rule) (text : List ℕ) : Type 0 where
  pub plain : List ℕ
  pub same : str_to_ascii_lowercase text ≡ str_to_ascii_lowercase plain
  pub is : P plain

-- [day-of-week ","], and the space after it
abbrev pub MeansWeekday : Option ℕ → Rule
MeansWeekday None = Literal []
MeansWeekday (Some weekday) = AnyCase (Name day_names weekday) ▹ Mark 44

-- all the digits of a number, from the least to the most of them
abbrev pub AllOf : ℕ → ℕ → ℕ → Rule
AllOf least most n text = Digits (length text) n text × IsInRange least most (length text)

-- a day of one digit or two
abbrev pub MeansDay : ℕ → Rule
MeansDay day text = AllOf 1 2 day text × IsInRange 1 31 day

-- a year of two digits is of 1950 to 2049, and one of three is counted from 1900
abbrev pub full_year : ℕ → ℕ → ℕ
full_year count n =
    if count == 2 then (if nat_lt n 50 then 2000 + n else 1900 + n)
    else (if count == 3 then 1900 + n else n)

pub record MeansYear (year : ℕ) (text : List ℕ) : Type 0 where
  pub number : ℕ
  pub spelled : AllOf 2 4 number text
  pub is : year ≡ full_year (length text) number
  pub fits : 1900 ≤ year

-- [day-of-week ","] day month year, where the month has the day and the weekday is that of the date
pub record MeansDate (date : OrdinalDate) (text : List ℕ) : Type 0 where
  pub weekday : Option ℕ
  pub day : ℕ
  pub place : ℕ
  pub year : ℕ
  pub spelled : (MeansWeekday weekday ▹ MeansDay day ▹ IsGap ▹ AnyCase (Name month_names place)
      ▹ IsGap ▹ MeansYear year) text
  pub day_fits : IsDayOfMonth (pos year) (place + 1) day
  pub is : date ≡ date_of (pos year) (place + 1) day
  pub named : IfSome weekday (λ w. w ≡ weekday_of date)

-- [":" second], where second 60 means 59
pub record AfterMark (second : ℕ) (text : List ℕ) : Type 0 where
  pub number : ℕ
  pub spelled : (Mark 58 ▹ Two 0 60 number) text
  pub is : second ≡ min number 59

abbrev pub MeansSecond : ℕ → Rule
MeansSecond second text = (Literal [] text × (second ≡ 0)) ⊎ AfterMark second text

-- hour ":" minute [":" second]
abbrev pub MeansClock : TimeOfDay → Rule
MeansClock t text =
    (Two 0 23 t.hour ▹ Mark 58 ▹ Two 0 59 t.minute ▹ MeansSecond t.second) text × (t.nanosecond ≡ 0)

-- zones by their names, with how many hours they are behind UTC
abbrev pub zones : List (List ℕ × ℕ)
zones =
    (codes "UT", 0) ∷ (codes "GMT", 0) ∷ (codes "EDT", 4) ∷ (codes "EST", 5) ∷ (codes "CDT", 5)
    ∷ (codes "CST", 6) ∷ (codes "MDT", 6) ∷ (codes "MST", 7) ∷ (codes "PDT", 7) ∷ (codes "PST", 8) ∷ []

abbrev pub zone_at : ℕ → List ℕ × ℕ
zone_at place = slice_index_or zones place ([], 0)

pub record NamedZone (offset : Offset) (text : List ℕ) : Type 0 where
  pub place : ℕ
  pub exists : place < length zones
  pub spelled : AnyCase (Literal (zone_at place).0) text
  pub is : offset ≡ signed_offset true (zone_at place).1 0

-- a letter of the military zones, which is read as UTC since its sign was written either way; `J` is
-- none
pub record MilitaryZone (offset : Offset) (text : List ℕ) : Type 0 where
  pub letter : ℕ
  pub spelled : AnyCase (Literal (letter ∷ [])) text
  pub fits : IsInRange 65 90 letter
  pub other : letter ≢ 74
  pub is : offset ≡ utc

-- a sign with four digits, of which `-0000` is UTC too, a name or a letter
abbrev pub MeansZone : Offset → Rule
MeansZone offset text =
    SignedOffset 25 (Digits 2) offset text ⊎ (NamedZone offset text ⊎ MilitaryZone offset text)

-- the text means the value
abbrev pub MailMeans : OffsetDateAndTime → Rule
MailMeans v =
    IsSpace ▹ MeansDate v.date ▹ IsGap ▹ MeansClock v.time ▹ IsGap ▹ MeansZone v.offset ▹ IsSpace
