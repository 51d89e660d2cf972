-- Each width is reached by one of the two longest values.
use Rattle.std.proofs.Common.{◌≡◌, ℕ, ◌+◌, Bool, true, false, ◌&&◌, nat_lt, inl, inr, length, refl, ◌∙◌, arith}
use Rattle.std.proofs.Common.{IsTrue, decimal, length-append}
use Rattle.std.proofs.lemmas.Bool.{and_parts, eqb-true, leb-true, ltb-true}
use Rattle.std.specs.Fmt.{digits}
use Rattle.std.specs.Prelude.{◌==◌, nat_le}
use Rattle.time_below.specs.Calendar.{days_of_months, last_begun, date_at}
use Rattle.time_below.specs.declared.format_description.component.Component.{Component}
use Rattle.time_below.specs.declared.format_description.component.Component.TheVariants as component
use Rattle.time_below.specs.declared.format_description.modifier.SubsecondDigits.{SubsecondDigits}
use Rattle.time_below.specs.declared.period.Period.{Period}
use Rattle.time_below.specs.Facts.{facts_of_offset_date_time}
use Rattle.time_below.specs.Moment.{OffsetDateAndTime}
use Rattle.time_below.specs.Width.{component_width, subsecond_width}
use Rattle.time_digits.specs.Digits.{fixed}
use Rattle.time_digits.specs.Fraction.{last_zeros, trimmed_fraction}
use Rattle.time_digits.proofs.LengthLemmas.{length-digit}
use Rattle.time_fmt.specs.Description.{kind_of}
use Rattle.time_fmt.specs.Kind as kind
use Rattle.time_fmt.specs.Kind.{Kind, kind_text}
use Rattle.time_fmt.specs.Longest.{ReachesWidth, longest_extended, longest_standard}
use Rattle.time_fmt.specs.Text.{period_text, subsecond_text}
use Rattle.time_fmt.proofs.TextLemmas.{no_padding}
use Rattle.std.proofs.lemmas.Grind.{common_steps}

-- decimals of the second, as many as are chosen, or nine
length-subseconds : (decimals : SubsecondDigits) → length (subsecond_text decimals 123_456_789) ≡ subsecond_width decimals
unfolding fixed last_zeros trimmed_fraction
length-subseconds decimals = grind (arith, common_steps)

-- whether a text fills a width, for any padding, case and sign
abbrev fills_width : Kind → ℕ → Bool
fills_width (kind.number p places n) width = nat_le places (length (decimal n)) && (length (decimal n) == width)
fills_width (kind.signed is_negative is_wanted p places n) width =
    is_negative && (nat_le places (length (decimal n)) && (length (decimal n) + 1 == width))
fills_width (kind.limited greatest n k) width = nat_le n greatest && fills_width k width
fills_width (kind.digit one_indexed days) width = nat_lt days 9 && (1 == width)
fills_width (kind.half_day p is_uppercase) width = 2 == width
fills_width (kind.decimals d n) width = false
fills_width k width = length (kind_text k) == width

half_day_fills : (p : Period) (is_uppercase : Bool) → length (period_text p is_uppercase) ≡ 2
half_day_fills p is_uppercase = grind (arith, common_steps)

-- it has then this many bytes
text_fills : (k : Kind) (width : ℕ) → IsTrue (fills_width k width) → length (kind_text k) ≡ width
text_fills (kind.number p places n) width h = grind (arith, and_parts, eqb-true, no_padding, leb-true)
text_fills (kind.signed true is_wanted p places n) width h =
    grind (arith, and_parts, length-append, eqb-true, no_padding, leb-true)
text_fills (kind.signed false is_wanted p places n) width h = cc
text_fills (kind.limited greatest n k) width h = text_fills k width (and_parts (nat_le n greatest) (fills_width k width) h).1
text_fills (kind.digit one_indexed days) width h =
    grind (arith, common_steps, and_parts, ltb-true, eqb-true, length-digit)
text_fills (kind.half_day p is_uppercase) width h = half_day_fills p is_uppercase ∙ eqb-true 2 width h
text_fills (kind.decimals d n) width h = cc
text_fills k width h = eqb-true (length (kind_text k)) width h

-- one of the two values fills the width
width_is_reached : (c : Component) (value : OffsetDateAndTime)
    → IsTrue (fills_width (kind_of c (facts_of_offset_date_time value)) (component_width c))
    → length (kind_text (kind_of c (facts_of_offset_date_time value))) ≡ component_width c
width_is_reached c value h = text_fills (kind_of c (facts_of_offset_date_time value)) (component_width c) h

-- each width is reached
pub reaches_width : (c : Component) → ReachesWidth c
unfolding digits days_of_months last_begun date_at
reaches_width (component.MonthNumerical m) h = inr (width_is_reached (component.MonthNumerical m) longest_standard refl)
reaches_width (component.CalendarYearFullStandardRange m) h =
    inr (width_is_reached (component.CalendarYearFullStandardRange m) longest_standard refl)
reaches_width (component.CalendarYearCenturyStandardRange m) h =
    inr (width_is_reached (component.CalendarYearCenturyStandardRange m) longest_standard refl)
reaches_width (component.IsoYearFullStandardRange m) h =
    inr (width_is_reached (component.IsoYearFullStandardRange m) longest_standard refl)
reaches_width (component.IsoYearCenturyStandardRange m) h =
    inr (width_is_reached (component.IsoYearCenturyStandardRange m) longest_standard refl)
reaches_width (component.Subsecond m) h = inl (length-subseconds m.digits)
reaches_width (component.Month m) h = cc
reaches_width (component.Weekday m) h = cc
reaches_width (component.WeekNumber m) h = cc
reaches_width (component.Hour m) h = cc
reaches_width (component.UnixTimestamp m) h = cc
reaches_width (component.Year m) h = cc
reaches_width c h = inl (width_is_reached c longest_extended refl)
