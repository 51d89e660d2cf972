-- What is known of the texts of the well-known formats: they are ASCII, and so UTF-8, for any numbers. The longest ones
-- of RFC 3339, of RFC 2822 and of the date of HTTP are as long as the table widths.
use Rattle.std.proofs.Common.{◌∷◌, ◌≡◌, refl, arith, ℕ, Bool, true, false, List, [], ◌++◌, IsAscii, IsUtf8, Option}
use Rattle.std.proofs.Common.{Some, None, ℤ, if◌then◌else◌}
use Rattle.time_digits.specs.Fraction.{trimmed_fraction}
use Rattle.time_digits.specs.Digits.{fixed, padded, zero_padded}
use Rattle.std.specs.Fmt.{digits}
use Rattle.std.specs.Prelude.{nat_lt}
use Rattle.std.proofs.lemmas.Str.{IsAscii-append, IsAscii-take, IsUtf8-from_ascii}
use Rattle.std.proofs.lemmas.Str.Ascii.{IsAscii-nil}
use Rattle.time_below.specs.Calendar.{days_of_months, last_begun}
use Rattle.time_below.specs.Offset.{is_negative}
use Rattle.time_digits.proofs.DigitLemmas.{IsAscii-fixed}
use Rattle.time_digits.proofs.FractionLemmas.{IsAscii-trimmed_fraction}
use Rattle.time_digits.proofs.LengthLemmas.{IsAscii-padded}
use Rattle.time_digits.proofs.TableLemmas.{ascii_test}
use Rattle.time_fmt.specs.Text.{sign_text}
use Rattle.time_fmt.specs.DateText.{month_name, weekday_name, short_name}
use Rattle.time_fmt.specs.Outcome.{Outcome, refused, join, invalid_component}
use Rattle.time_fmt.proofs.GuaranteeLemmas.{IsAscii-sign_text, IsAscii-month_name, IsAscii-weekday_name}
use Rattle.time_known.specs.Config.{Choices, DateKind, DecimalSign, OffsetPrecision, TimePrecision}
use Rattle.time_known.specs.Values.{Facts, DateFacts, Offset, TimeOfDay}
use Rattle.time_known.specs.declared.iso8601.config.DateKind.TheVariants as kind
use Rattle.time_known.specs.declared.iso8601.config.DecimalSign.TheVariants as sign_of
use Rattle.time_known.specs.declared.iso8601.config.OffsetPrecision.TheVariants as offset_precision
use Rattle.time_known.specs.declared.iso8601.config.TimePrecision.TheVariants as precision
use Rattle.time_known.specs.ImfFixdate.{FillsImfFixdateWidth, imf_fixdate_outcome, imf_fixdate_text}
use Rattle.time_known.specs.Iso8601.{iso8601_outcome, iso_date, iso_time, iso_offset, iso_year}
use Rattle.time_known.specs.Iso8601.{text_after_year, units_text, decimal_part, iso_minutes}
use Rattle.time_known.specs.Longest.{FillsRfc3339Width, FillsRfc2822Width}
use Rattle.time_known.specs.Rfc2822.{rfc2822_outcome}
use Rattle.time_known.specs.Rfc3339.{rfc3339_outcome}
use Rattle.time_known.specs.WellKnown.{refused_if}
use Rattle.std.proofs.lemmas.Grind.{common_steps}
use Rattle.time_known.proofs.WidthLemmas.{rfc3339_is_within, rfc2822_is_within, imf_fixdate_is_within}

-- a text that is ASCII
record Ascii (bytes : List ℕ) : Type 0 where
  is : IsAscii bytes

-- a text that is known to be ASCII
known_ascii : {bytes : List ℕ} → IsAscii bytes → Ascii bytes
known_ascii h = record { is = h }

-- ASCII is UTF-8
utf8_of_ascii : {bytes : List ℕ} → Ascii bytes → IsUtf8 bytes
utf8_of_ascii {bytes} h = IsUtf8-from_ascii bytes h.is

ascii_empty : Ascii []
ascii_empty = known_ascii IsAscii-nil

-- one text after another
ascii_append : {a b : List ℕ} → Ascii a → Ascii b → Ascii (a ++ b)
ascii_append {a} {b} p q = known_ascii (IsAscii-append a b p.is q.is)

-- a byte, and then a text
ascii_byte_before : {b : ℕ} {bytes : List ℕ} → nat_lt b 128 ≡ true → Ascii bytes → Ascii (b ∷ bytes)
ascii_byte_before {b} {bytes} below h = ascii_append {a = b ∷ []} (known_ascii (ascii_test (b ∷ []) (rw below))) h

-- one of two texts
ascii_either : {a b : List ℕ} (c : Bool) → Ascii a → Ascii b → Ascii (if c then a else b)
ascii_either c h k = grind (arith, common_steps)

-- ---- outcomes

-- one of two outcomes
ascii_either_outcome : (c : Bool) (a b : Outcome) → Ascii a.bytes → Ascii b.bytes → Ascii (if c then a else b).bytes
ascii_either_outcome c a b h k = grind (arith, common_steps)

-- an outcome after a test, whether it refuses or not
ascii_refused_if : (c : Bool) (name : List ℕ) (o : Outcome) → Ascii o.bytes → Ascii (refused_if c name o).bytes
ascii_refused_if c name o h = ascii_either_outcome c (refused (invalid_component name)) o ascii_empty h

-- one outcome after another
ascii_join : (a b : Outcome) → Ascii a.bytes → Ascii b.bytes → Ascii (join a b).bytes
ascii_join a b p q = grind (arith, common_steps, ascii_append)

-- ---- texts

ascii_zero_padded : (k n : ℕ) → Ascii (zero_padded k n)
ascii_zero_padded k n = known_ascii (IsAscii-padded 48 k n (omega arith))

ascii_fixed : (k n : ℕ) → Ascii (fixed k n)
ascii_fixed k n = known_ascii (IsAscii-fixed k n)

ascii_trimmed_fraction : (n : ℕ) → Ascii (trimmed_fraction n)
ascii_trimmed_fraction n = known_ascii (IsAscii-trimmed_fraction n)

ascii_sign_text : (is_negative is_wanted : Bool) → Ascii (sign_text is_negative is_wanted)
ascii_sign_text is_negative is_wanted = known_ascii (IsAscii-sign_text is_negative is_wanted)

ascii_month_name : (n : ℕ) → Ascii (short_name (month_name n))
ascii_month_name n = known_ascii (IsAscii-take (month_name n) 3 (IsAscii-month_name n))

ascii_weekday_name : (n : ℕ) → Ascii (short_name (weekday_name n))
ascii_weekday_name n = known_ascii (IsAscii-take (weekday_name n) 3 (IsAscii-weekday_name n))

-- a text is ASCII where its parts are
ruleset ascii_text_lemmas = (ascii_empty, ascii_byte_before, ascii_append, ascii_either, ascii_zero_padded, ascii_fixed, ascii_trimmed_fraction, ascii_sign_text, ascii_month_name, ascii_weekday_name, refl)

-- ---- RFC 3339, RFC 2822 and the date of HTTP

-- the bytes of each outcome of RFC 3339 are UTF-8
pub rfc3339_utf8 : (f : Facts) → IsUtf8 (rfc3339_outcome f).bytes
rfc3339_utf8 f = utf8_of_ascii (search (ascii_either_outcome, ascii_refused_if, ascii_text_lemmas) depth 25)

-- the bytes of each outcome of RFC 2822 are UTF-8
pub rfc2822_utf8 : (f : Facts) → IsUtf8 (rfc2822_outcome f).bytes
rfc2822_utf8 f = utf8_of_ascii (search (ascii_either_outcome, ascii_refused_if, ascii_text_lemmas) depth 25)

ascii_imf_fixdate : (d : DateFacts) (t : TimeOfDay) → Ascii (imf_fixdate_text d t)
ascii_imf_fixdate d t = search ascii_text_lemmas depth 25

-- the bytes of each outcome of the date of HTTP are UTF-8
pub imf_fixdate_utf8 : (f : Facts) → IsUtf8 (imf_fixdate_outcome f).bytes
imf_fixdate_utf8 f =
    utf8_of_ascii (search (ascii_either_outcome, ascii_refused_if, ascii_empty, ascii_imf_fixdate) depth 12)

-- the longest text by RFC 3339
pub rfc3339_fills_its_width : FillsRfc3339Width
unfolding digits padded fixed trimmed_fraction days_of_months last_begun
rfc3339_fills_its_width = record { complete = refl; full = refl }

-- the longest text by RFC 2822
pub rfc2822_fills_its_width : FillsRfc2822Width
unfolding digits padded fixed trimmed_fraction days_of_months last_begun
rfc2822_fills_its_width = record { complete = refl; full = refl }

-- the longest date of HTTP
pub imf_fixdate_fills_its_width : FillsImfFixdateWidth
unfolding digits padded days_of_months last_begun
imf_fixdate_fills_its_width = record { complete = refl; full = refl }

-- no text by any is longer, and this one is as long
pub ruleset rfc_widths = (rfc3339_is_within, rfc2822_is_within, imf_fixdate_is_within, rfc3339_fills_its_width, rfc2822_fills_its_width, imf_fixdate_fills_its_width)

-- ---- ISO 8601

ascii_iso_year : (is_six_digits : Bool) (y : ℤ) → Ascii (iso_year is_six_digits y).bytes
ascii_iso_year true y = search ascii_text_lemmas
ascii_iso_year false y = search (ascii_refused_if, ascii_text_lemmas)

-- what follows the year
ascii_text_after_year : (k : DateKind) (c : Choices) (d : DateFacts) → Ascii (text_after_year k c d)
ascii_text_after_year kind.Calendar c d = search ascii_text_lemmas depth 8
ascii_text_after_year _ c d = search ascii_text_lemmas depth 8

ascii_iso_date : (c : Choices) (d : DateFacts) → Ascii (iso_date c d).bytes
ascii_iso_date c d = search (ascii_join, ascii_iso_year, ascii_text_after_year)

-- decimals and the sign before them
ascii_decimal_part : (s : DecimalSign) (d : Option ℕ) (rest unit : ℕ) → Ascii (decimal_part s d rest unit)
ascii_decimal_part s None rest unit = ascii_empty
ascii_decimal_part sign_of.Point (Some d) rest unit = search ascii_text_lemmas
ascii_decimal_part _ (Some d) rest unit = search ascii_text_lemmas

ascii_units_text : (p : TimePrecision) (c : Choices) (t : TimeOfDay) → Ascii (units_text p c t)
ascii_units_text (precision.Hour d) c t = search (ascii_text_lemmas, ascii_decimal_part)
ascii_units_text _ c t = search (ascii_text_lemmas, ascii_decimal_part) depth 10

ascii_iso_time : (c : Choices) (t : TimeOfDay) → Ascii (iso_time c t).bytes
ascii_iso_time c t = search (ascii_text_lemmas, ascii_units_text)

ascii_minutes : (p : OffsetPrecision) (c : Choices) (minutes : ℕ) → Ascii (iso_minutes p c minutes).bytes
ascii_minutes offset_precision.Minute c minutes = search ascii_text_lemmas
ascii_minutes _ c minutes = search (ascii_refused_if, ascii_text_lemmas)

ascii_iso_offset : (c : Choices) (o : Offset) → Ascii (iso_offset c o).bytes
ascii_iso_offset c o = search (ascii_either_outcome, ascii_refused_if, ascii_join, ascii_text_lemmas, ascii_minutes)

-- the parts that are written, one after another
ruleset ascii_outcome_lemmas = (ascii_empty, ascii_either_outcome, ascii_join, ascii_iso_date, ascii_iso_time, ascii_iso_offset)

-- the bytes of each outcome of ISO 8601 are UTF-8
pub iso8601_utf8 : (c : Choices) (f : Facts) → IsUtf8 (iso8601_outcome c f).bytes
iso8601_utf8 c f = utf8_of_ascii (search ascii_outcome_lemmas depth 12)
