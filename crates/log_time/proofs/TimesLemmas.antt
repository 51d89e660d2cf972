-- The texts of moments in the lines of a log.
use Rattle.std.proofs.Common.{◌≡◌, ◌↔◌, ◌∙◌, ℕ, ◌+◌, ◌-◌, ◌*◌, ◌/◌, ◌<◌, ◌≤◌, ℤ, pos, negsuc, ◌+ℤ◌, ◌*ℤ◌, ◌<ℤ◌, Bool, true, false, List, [], ◌++◌, Option, IsAscii, IsSomeAnd, arith, refl, ap, sym, ⊎_elim, unsigned_abs, nat_lt, if◌then◌else◌}
use Rattle.std.proofs.lemmas.Bool.{cases_lt}
use Rattle.std.proofs.lemmas.Int.{ints}
use Rattle.std.proofs.lemmas.Str.{IsAscii-append}
use Rattle.std.proofs.lemmas.Str.Ascii.{IsAscii-nil}
use Rattle.std.specs.Int.{int_div_euclid}
use Rattle.std.specs.Prelude.{codes}
use Rattle.jiff_tz.specs.declared.timezone.TimeZone.{TimeZone}
use Rattle.time_below.specs.Calendar.{date_at}
use Rattle.time_below.specs.Facts.{date_facts}
use Rattle.time_below.specs.Moment.{IsTimestampSecond, Moment, OffsetDateAndTime, day_seconds, local_at, moved, unix_day, utc_date}
use Rattle.time_below.specs.Offset.{Offset}
use Rattle.time_digits.proofs.DigitLemmas.{IsAscii-fixed}
use Rattle.time_digits.proofs.LengthLemmas.{IsAscii-padded}
use Rattle.time_digits.proofs.TableLemmas.{ascii_test}
use Rattle.time_digits.specs.Digits.{fixed, zero_padded}
use Rattle.time_fmt.proofs.GuaranteeLemmas.{IsAscii-sign_text}
use Rattle.time_fmt.specs.Outcome.{Names, Outcome, done, invalid_component, refused}
use Rattle.time_fmt.specs.Text.{sign_text}
use Rattle.time_fmt.specs.declared.error.Format.{Format}
use Rattle.time_known.proofs.AcceptedLemmas.{any_hour, usual_accepted}
use Rattle.time_known.proofs.OutcomeLemmas.{IsYearWithin, not_above, test_is_passed, year_is_within}
use Rattle.time_known.specs.Accepted.{checked_text}
use Rattle.time_known.specs.Fields.{Shown, fields}
use Rattle.time_known.specs.Iso8601.{iso8601_of}
use Rattle.time_known.specs.Iso8601Width.{iso8601_width}
use Rattle.time_known.specs.UsualText.{usual_choices, usual_text}
use Rattle.time_known.specs.Values.{DateFacts, TimeOfDay}
use Rattle.time_known.specs.WellKnown.{is_outside}
use Rattle.time_known.specs.declared.iso8601.config.DecimalSign.{DecimalSign}
use Rattle.time_known.specs.declared.iso8601.config.DecimalSign.TheVariants.{Point}
use Rattle.log_time.specs.declared.log_time.Decimals.{Decimals}
use Rattle.log_time.specs.declared.log_time.Decimals.TheVariants.{Seconds, Milliseconds, Microseconds, Nanoseconds}
use Rattle.log_time.specs.LogText.{digits_of, log_choices, log_outcome, log_text}
use Rattle.log_time.specs.Times.{IsTimeIn}

-- ---- years that no timestamp has

-- a day before the range has a year below zero
early_year : (b : ℕ) → 365_242_500 ≤ b → (date_at (negsuc b)).year <ℤ pos 0
unfolding date_at
early_year b h =
    let quarters : pos 4 *ℤ negsuc b +ℤ pos 3 ≡ negsuc (4 * b) = omega (arith, ints) in
    rw quarters (omega (arith, ints))

-- a day after the range has a year above those of four digits
late_year : (b : ℕ) → 365_242_133 < b → pos 9_999 <ℤ (date_at (pos b)).year
unfolding date_at
late_year b h = omega (arith, ints)

-- a year that no timestamp has is not one of four digits
far_years : (s : ℤ) → (IsTimestampSecond s → ⊥) → IsYearWithin 0 9_999 (utc_date s).year → ⊥
far_years (pos a) far year =
    ⊎_elim (λ (h : 31_494_784_780_799 < a).
    let day : int_div_euclid (pos a) (pos day_seconds) +ℤ pos unix_day ≡ pos (a / 86_400 + 719_162) =
    omega (arith, ints) in
    let late = late_year (a / 86_400 + 719_162) (omega arith) in
    omega (arith, ints, rw (← day) at late, year.is, year.high))
    (λ (h : a ≤ 31_494_784_780_799). far (omega (arith, ints), omega (arith, ints)))
    (cases_lt 31_494_784_780_799 a)
far_years (negsuc a) far year =
    ⊎_elim (λ (h : 31_619_087_596_799 < a).
    let day : int_div_euclid (negsuc a) (pos day_seconds) +ℤ pos unix_day ≡ negsuc (a / 86_400 - 719_162) =
    omega (arith, ints) in
    let early = early_year (a / 86_400 - 719_162) (omega arith) in
    omega (arith, ints, rw (← day) at early, year.is))
    (λ (h : a ≤ 31_619_087_596_799). far (omega (arith, ints), omega (arith, ints)))
    (cases_lt 31_619_087_596_799 a)

-- what is refused is named
refused_as : (o : Outcome) (name : List ℕ) (e : Format) → o ≡ refused (invalid_component name)
    → Names e (invalid_component name) → IsSomeAnd o.refusal (Names e)
refused_as o name e is names = rw is names

-- such a year is refused
pub far_refused : (d : Decimals) (m : Moment) (o : Offset) (e : Format) → (IsTimestampSecond (moved m o).seconds → ⊥)
    → Names e (invalid_component (codes "year")) → IsSomeAnd (log_outcome d (local_at m o)).refusal (Names e)
far_refused d m o e far names = at (is_outside 0 9_999 (local_at m o).date.year) refl where
  at : (b : Bool) → is_outside 0 9_999 (local_at m o).date.year ≡ b
      → IsSomeAnd (log_outcome d (local_at m o)).refusal (Names e)
  at true is = refused_as (log_outcome d (local_at m o)) (codes "year") e (rw is refl) names
  at false is = absurd (far_years (moved m o).seconds far (year_is_within 0 9_999 _ is))

-- ---- texts

-- what has a place for 23 hours has one for 25
in_25_hours : (year : ℤ) (hour second : ℕ) → checked_text 0 23 year hour second [] ≡ done []
    → checked_text 0 25 year hour second [] ≡ done []
in_25_hours year hour second accepted =
    let years = test_is_passed (is_outside 0 9_999 year) (codes "year") _ [] accepted in
    let hours = test_is_passed (nat_lt 23 hour) (codes "offset_hour") _ [] years.done in
    let few = not_above 23 hour hours.right in
    any_hour 0 year hour second [] (omega (arith, few)) ∙ rw years.right hours.done

-- the text of accepted fields
pub text_is : (d : Decimals) (v w : OffsetDateAndTime) (s : Shown) (digits : Option ℕ) (sign : DecimalSign) (text : List ℕ)
    → v ≡ w → digits ≡ digits_of d → sign ≡ Point → s ≡ fields (date_facts v.date) v.time v.offset
    → checked_text 0 23 v.date.year (unsigned_abs v.offset.hours) (unsigned_abs v.offset.seconds) [] ≡ done []
    → checked_text 0 23 v.date.year (unsigned_abs v.offset.hours) (unsigned_abs v.offset.seconds) (log_text d v)
    ≡ done (log_text d v)
    → text ≡ usual_text (usual_choices true digits sign) digits s.date s.time s.offset
    → log_outcome d w ≡ done text
text_is d v w s digits sign text same is_digits is_sign shown accepted whole is =
    let hours = in_25_hours v.date.year (unsigned_abs v.offset.hours) (unsigned_abs v.offset.seconds) accepted in
    let iso : iso8601_of (log_choices d) v
    ≡ done (usual_text (log_choices d) (digits_of d) (date_facts v.date) v.time v.offset) =
    usual_accepted (log_choices d) true (digits_of d) Point (date_facts v.date) v.time v.offset [] refl hours in
    let text_of_iso : text ≡ log_text d v =
    is ∙ rw (is_digits, is_sign, shown) (sym (ap (λ (o : Outcome). o.bytes) iso)) in
    rw (← same) (whole ∙ ap done (sym text_of_iso))

-- its width
pub fits : (d : Decimals) (digits : Option ℕ) (sign : DecimalSign) → digits ≡ digits_of d
    → iso8601_width (usual_choices true digits sign) ≤ 35
fits d digits sign is = rw is (at d) where
  at : (d : Decimals) → iso8601_width (usual_choices true (digits_of d) sign) ≤ 35
  at Seconds = omega arith
  at Milliseconds = omega arith
  at Microseconds = omega arith
  at Nanoseconds = omega arith

-- a text that is ASCII
record Ascii (bytes : List ℕ) : Type 0 where
  is : IsAscii bytes

ascii_append : {a b : List ℕ} → Ascii a → Ascii b → Ascii (a ++ b)
ascii_append {a} {b} p q = record { is = IsAscii-append a b p.is q.is }

ascii_empty : Ascii []
ascii_empty = record { is = IsAscii-nil }

ascii_zero_padded : (k n : ℕ) → Ascii (zero_padded k n)
ascii_zero_padded k n = record { is = IsAscii-padded 48 k n (omega arith) }

ascii_fixed : (k n : ℕ) → Ascii (fixed k n)
ascii_fixed k n = record { is = IsAscii-fixed k n }

ascii_dash : Ascii (codes "-")
ascii_dash = record { is = ascii_test (codes "-") refl }

ascii_colon : Ascii (codes ":")
ascii_colon = record { is = ascii_test (codes ":") refl }

ascii_point : Ascii (codes ".")
ascii_point = record { is = ascii_test (codes ".") refl }

ascii_t : Ascii (codes "T")
ascii_t = record { is = ascii_test (codes "T") refl }

ascii_z : Ascii (codes "Z")
ascii_z = record { is = ascii_test (codes "Z") refl }

ascii_either : {a b : List ℕ} (c : Bool) → Ascii a → Ascii b → Ascii (if c then a else b)
ascii_either {a} {b} c h k = elim c as (λ v. Ascii (if v then a else b)) [ true ↦ h | _ ↦ k ]

ascii_sign : (is_negative is_wanted : Bool) → Ascii (sign_text is_negative is_wanted)
ascii_sign is_negative is_wanted = record { is = IsAscii-sign_text is_negative is_wanted }

ruleset ascii_parts = (ascii_append, ascii_empty, ascii_sign, ascii_zero_padded, ascii_fixed, ascii_dash, ascii_colon, ascii_point, ascii_t, ascii_z, ascii_either)

ascii_usual : (d : Decimals) (date : DateFacts) (t : TimeOfDay) (o : Offset)
    → Ascii (usual_text (usual_choices true (digits_of d) Point) (digits_of d) date t o)
ascii_usual Seconds date t o = search ascii_parts depth 25
ascii_usual Milliseconds date t o = search ascii_parts depth 25
ascii_usual Microseconds date t o = search ascii_parts depth 25
ascii_usual Nanoseconds date t o = search ascii_parts depth 25

-- each text is ASCII
pub is_ascii : (d : Decimals) (digits : Option ℕ) (sign : DecimalSign) (s : Shown) → digits ≡ digits_of d → sign ≡ Point
    → IsAscii (usual_text (usual_choices true digits sign) digits s.date s.time s.offset)
is_ascii d digits sign s is_digits is_sign = rw (is_digits, is_sign) (ascii_usual d s.date s.time s.offset).is

-- ---- zones

-- the same zone has the same times
pub same_times : (a b : TimeZone) (d : Decimals) → b ≡ a → (m : Moment) (text : Option (List ℕ))
    → IsTimeIn a d m text ↔ IsTimeIn b d m text
same_times a b d zone m text = rw zone (λ h. h, λ h. h)
