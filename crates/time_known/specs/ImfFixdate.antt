-- The date of HTTP, IMF-fixdate (RFC 9110, section 5.6.7): what the format gives, and which texts spell which value.
-- It is the date and the clock of RFC 2822, and always in UTC.
use Rattle.std.specs.Prelude.{◌≡◌, List, ℕ, ◌++◌, codes, nat_lt, unsigned_abs}
use Rattle.time_fmt.specs.Outcome.{Outcome, done}
use Rattle.time_known.specs.Groups.{all_groups, at_groups}
use Rattle.time_known.specs.Longest.{Fills, longest_well_known}
use Rattle.time_known.specs.Rfc2822.{named_date_text}
use Rattle.time_known.specs.Rfc2822Grammar.{ClockOfDay, NamedDateFrom}
use Rattle.time_known.specs.Rules.{Literal, ◌▹◌}
use Rattle.time_known.specs.Values.{facts_of_offset_date_time, Facts, DateFacts, OffsetDateAndTime, Offset, TimeOfDay, utc}
use Rattle.time_known.specs.WellKnown.{refused_if, is_outside, if_supplied, clock_text}

-- ---- what the format gives

-- the most bytes of such a text
abbrev pub imf_fixdate_width : ℕ
imf_fixdate_width = 29

-- day-name "," SP date1 SP time-of-day SP GMT
abbrev pub imf_fixdate_text : DateFacts → TimeOfDay → List ℕ
imf_fixdate_text d t = named_date_text d ++ codes " " ++ clock_text (codes ":") t ++ codes " GMT"

-- The refusals come in this order, before any byte. Each part of the offset is zero.
abbrev pub imf_fixdate_of_groups : DateFacts → TimeOfDay → Offset → Outcome
imf_fixdate_of_groups d t o =
    refused_if (is_outside 0 9_999 d.year) (codes "year")
    (refused_if (nat_lt 0 (unsigned_abs o.hours)) (codes "offset_hour")
    (refused_if (nat_lt 0 (unsigned_abs o.seconds)) (codes "offset_second")
    (refused_if (nat_lt 0 (unsigned_abs o.minutes)) (codes "offset_minute") (done (imf_fixdate_text d t)))))

abbrev pub imf_fixdate_outcome : Facts → Outcome
imf_fixdate_outcome f = if_supplied all_groups f (at_groups imf_fixdate_of_groups f)

-- the outcome of a value with a local date, a time and an offset
abbrev pub imf_fixdate_of : OffsetDateAndTime → Outcome
imf_fixdate_of v = imf_fixdate_outcome (facts_of_offset_date_time v)

-- 1997-11-12 9:55:06 in UTC completes and fills the width
abbrev pub FillsImfFixdateWidth : Type 0
FillsImfFixdateWidth = Fills (imf_fixdate_of (record longest_well_known { offset = utc })) imf_fixdate_width

-- ---- which texts spell which value

-- IMF-fixdate = day-name "," SP date1 SP time-of-day SP GMT, where date1 = day SP month SP year, without second 60: the
-- text spells the value, which is in UTC and has no fraction of a second
pub record ImfFixdateSpells (v : OffsetDateAndTime) (text : List ℕ) : Type 0 where
  pub spelled : (NamedDateFrom 0 v.date ▹ Literal (codes " ") ▹ ClockOfDay v.time ▹ Literal (codes " GMT")) text
  pub nanosecond : v.time.nanosecond ≡ 0
  pub offset : v.offset ≡ utc
