-- The table of deprecated components row by row, by computing the definition of their conversion.
use Rattle.std.proofs.Common.{◌≡◌, refl, Bool, true, false, [], ◌∷◌, map}
use Rattle.time_below.specs.Conversion.{current_component}
use Rattle.time_below.specs.declared.format_description.component.Component.{Component}
use Rattle.time_below.specs.declared.format_description.component.Component.TheVariants as component
use Rattle.time_below.specs.declared.format_description.modifier.Padding.{Padding}
use Rattle.time_below.specs.declared.format_description.modifier.MonthRepr.TheVariants as month
use Rattle.time_below.specs.declared.format_description.modifier.WeekdayRepr.TheVariants as weekday
use Rattle.time_below.specs.declared.format_description.modifier.WeekNumberRepr.TheVariants as week
use Rattle.time_below.specs.declared.format_description.modifier.UnixTimestampPrecision.TheVariants as precision
use Rattle.time_below.specs.declared.format_description.modifier.YearRepr.{YearRepr}
use Rattle.time_below.specs.declared.format_description.modifier.YearRepr.TheVariants as year
use Rattle.time_below.specs.declared.format_description.modifier.YearRange.{YearRange}
use Rattle.time_below.specs.declared.format_description.modifier.YearRange.TheVariants as range

-- the current components in the place of the deprecated ones, choice by choice

month_rows : (p : Padding) (b : Bool)
    → map (λ x. current_component (component.Month (record { padding = p; repr = x; case_sensitive = b })))
    (month.Numerical ∷ month.Long ∷ month.Short ∷ [])
    ≡ component.MonthNumerical (record { padding = p }) ∷
    component.MonthLong (record { case_sensitive = b }) ∷
    component.MonthShort (record { case_sensitive = b }) ∷ []
month_rows p b = refl

weekday_rows : (p : Padding) (b : Bool)
    → map (λ x. current_component (component.Weekday (record { repr = x; one_indexed = b; case_sensitive = b })))
    (weekday.Short ∷ weekday.Long ∷ weekday.Sunday ∷ weekday.Monday ∷ [])
    ≡ component.WeekdayShort (record { case_sensitive = b }) ∷
    component.WeekdayLong (record { case_sensitive = b }) ∷
    component.WeekdaySunday (record { one_indexed = b }) ∷
    component.WeekdayMonday (record { one_indexed = b }) ∷ []
weekday_rows p b = refl

week_numbers : (p : Padding) (b : Bool)
    → map (λ x. current_component (component.WeekNumber (record { padding = p; repr = x })))
    (week.Iso ∷ week.Sunday ∷ week.Monday ∷ [])
    ≡ component.WeekNumberIso (record { padding = p }) ∷
    component.WeekNumberSunday (record { padding = p }) ∷
    component.WeekNumberMonday (record { padding = p }) ∷ []
week_numbers p b = refl

hour_rows : (p : Padding) (b : Bool)
    → map (λ x. current_component (component.Hour (record { padding = p; is_12_hour_clock = x })))
    (true ∷ false ∷ [])
    ≡ component.Hour12 (record { padding = p }) ∷
    component.Hour24 (record { padding = p }) ∷ []
hour_rows p b = refl

unix_timestamps : (p : Padding) (b : Bool)
    → map (λ x. current_component (component.UnixTimestamp (record { precision = x; sign_is_mandatory = b })))
    (precision.Second ∷ precision.Millisecond ∷ [])
    ≡ component.UnixTimestampSecond (record { sign_is_mandatory = b }) ∷
    component.UnixTimestampMillisecond (record { sign_is_mandatory = b }) ∷ []
unix_timestamps p b = refl

-- a year by its part, range and calendar
abbrev year_of : Padding → Bool → Bool → YearRepr → YearRange → Component
year_of p b is_iso part size =
    current_component
    (component.Year (record { padding = p; repr = part; range = size; iso_week_based = is_iso; sign_is_mandatory = b }))

calendar_years : (p : Padding) (b : Bool)
    → year_of p b false year.Full range.Extended ∷
    year_of p b false year.Full range.Standard ∷
    year_of p b false year.Century range.Extended ∷
    year_of p b false year.Century range.Standard ∷
    year_of p b false year.LastTwo range.Extended ∷
    year_of p b false year.LastTwo range.Standard ∷ []
    ≡ component.CalendarYearFullExtendedRange (record { padding = p; sign_is_mandatory = b }) ∷
    component.CalendarYearFullStandardRange (record { padding = p; sign_is_mandatory = b }) ∷
    component.CalendarYearCenturyExtendedRange (record { padding = p; sign_is_mandatory = b }) ∷
    component.CalendarYearCenturyStandardRange (record { padding = p; sign_is_mandatory = b }) ∷
    component.CalendarYearLastTwo (record { padding = p }) ∷
    component.CalendarYearLastTwo (record { padding = p }) ∷ []
calendar_years p b = refl

iso_years : (p : Padding) (b : Bool)
    → year_of p b true year.Full range.Extended ∷
    year_of p b true year.Full range.Standard ∷
    year_of p b true year.Century range.Extended ∷
    year_of p b true year.Century range.Standard ∷
    year_of p b true year.LastTwo range.Extended ∷
    year_of p b true year.LastTwo range.Standard ∷ []
    ≡ component.IsoYearFullExtendedRange (record { padding = p; sign_is_mandatory = b }) ∷
    component.IsoYearFullStandardRange (record { padding = p; sign_is_mandatory = b }) ∷
    component.IsoYearCenturyExtendedRange (record { padding = p; sign_is_mandatory = b }) ∷
    component.IsoYearCenturyStandardRange (record { padding = p; sign_is_mandatory = b }) ∷
    component.IsoYearLastTwo (record { padding = p }) ∷
    component.IsoYearLastTwo (record { padding = p }) ∷ []
iso_years p b = refl
