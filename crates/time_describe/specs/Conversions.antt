-- The conversions of strftime, one line each, as POSIX.1-2017 has them, and those that GNU adds.
use Rattle.std.specs.Prelude.{ℕ, ◌==◌, ◌||◌, Bool, true, false, nat_le, ◌&&◌, codes, List, [], ◌∷◌, ◌++◌, Option, Some, None, option_map, is_some, if◌then◌else◌}
use Rattle.std.specs.Option.{unwrap_or}
use Rattle.time_below.specs.declared.format_description.component.Component.{Component}
use Rattle.time_below.specs.declared.format_description.component.Component.TheVariants as component
use Rattle.time_below.specs.declared.format_description.modifier.Padding.{Padding}
use Rattle.time_below.specs.declared.format_description.modifier.Padding.TheVariants as padding
use Rattle.time_below.specs.declared.format_description.modifier.SubsecondDigits.{SubsecondDigits}
use Rattle.time_below.specs.declared.format_description.modifier.SubsecondDigits.TheVariants as digits
use Rattle.time_below.specs.Tree.{Tree, of_component}
use Rattle.time_describe.specs.Literal.{literal_of}
use Rattle.time_describe.specs.declared.strftime.reason.StrftimeReason.{StrftimeReason}
use Rattle.time_describe.specs.declared.strftime.reason.StrftimeReason.TheVariants.{ZoneName, LocaleModifier, FieldWidth, CaseFlag, PlusFlag, SecondFlag, FlagWithoutNumber, UnknownConversion}

-- the byte of a text of one letter
abbrev pub byte : List ℕ → ℕ
byte [] = 0
byte (b ∷ bs) = b

-- what a flag asks for, or else how a number is padded
abbrev pub zero : Option Padding → Padding
zero flag = unwrap_or flag padding.Zero

abbrev pub space : Option Padding → Padding
space flag = unwrap_or flag padding.Space

-- the first of two that is there
abbrev pub otherwise : {A : Type 0} → Option A → Option A → Option A
otherwise (Some x) y = Some x
otherwise None y = y

-- numbers, which take a flag
unfoldable pub number : ℕ → Option Padding → Option Component
number c flag =
    if c == byte (codes "C") then Some (component.CalendarYearCenturyExtendedRange (record { padding = zero flag; sign_is_mandatory = false }))
    else (if c == byte (codes "d") then Some (component.Day (record { padding = zero flag }))
    else (if c == byte (codes "e") then Some (component.Day (record { padding = space flag }))
    else (if c == byte (codes "g") then Some (component.IsoYearLastTwo (record { padding = zero flag }))
    else (if c == byte (codes "G") then Some (component.IsoYearFullExtendedRange (record { padding = zero flag; sign_is_mandatory = false }))
    else (if c == byte (codes "H") then Some (component.Hour24 (record { padding = zero flag }))
    else (if c == byte (codes "I") then Some (component.Hour12 (record { padding = zero flag }))
    else (if c == byte (codes "j") then Some (component.Ordinal (record { padding = zero flag }))
    else (if c == byte (codes "k") then Some (component.Hour24 (record { padding = space flag }))
    else (if c == byte (codes "l") then Some (component.Hour12 (record { padding = space flag }))
    else (if c == byte (codes "m") then Some (component.MonthNumerical (record { padding = zero flag }))
    else (if c == byte (codes "M") then Some (component.Minute (record { padding = zero flag }))
    else (if c == byte (codes "s") then Some (component.UnixTimestampSecond (record { sign_is_mandatory = false }))
    else (if c == byte (codes "S") then Some (component.Second (record { padding = zero flag }))
    else (if c == byte (codes "u") then Some (component.WeekdayMonday (record { one_indexed = true }))
    else (if c == byte (codes "U") then Some (component.WeekNumberSunday (record { padding = zero flag }))
    else (if c == byte (codes "V") then Some (component.WeekNumberIso (record { padding = zero flag }))
    else (if c == byte (codes "w") then Some (component.WeekdaySunday (record { one_indexed = false }))
    else (if c == byte (codes "W") then Some (component.WeekNumberMonday (record { padding = zero flag }))
    else (if c == byte (codes "y") then Some (component.CalendarYearLastTwo (record { padding = zero flag }))
    else (if c == byte (codes "Y") then Some (component.CalendarYearFullExtendedRange (record { padding = zero flag; sign_is_mandatory = false }))
    else None))))))))))))))))))))

-- names and fractions, which take none
unfoldable pub word : ℕ → Option Component
word c =
    if c == byte (codes "a") then Some (component.WeekdayShort (record { case_sensitive = true }))
    else (if c == byte (codes "A") then Some (component.WeekdayLong (record { case_sensitive = true }))
    else (if c == byte (codes "b") then Some (component.MonthShort (record { case_sensitive = true }))
    else (if c == byte (codes "B") then Some (component.MonthLong (record { case_sensitive = true }))
    else (if c == byte (codes "h") then Some (component.MonthShort (record { case_sensitive = true }))
    else (if c == byte (codes "N") then Some (component.Subsecond (record { digits = digits.Nine }))
    else (if c == byte (codes "p") then Some (component.Period (record { is_uppercase = true; case_sensitive = true }))
    else (if c == byte (codes "P") then Some (component.Period (record { is_uppercase = false; case_sensitive = true }))
    else None)))))))

-- what stands for other conversions, in the C locale
unfoldable pub composition : ℕ → Option (List ℕ)
composition c =
    if c == byte (codes "c") then Some (codes "%a %b %e %H:%M:%S %Y")
    else (if c == byte (codes "D") then Some (codes "%m/%d/%y")
    else (if c == byte (codes "F") then Some (codes "%Y-%m-%d")
    else (if c == byte (codes "r") then Some (codes "%I:%M:%S %p")
    else (if c == byte (codes "R") then Some (codes "%H:%M")
    else (if c == byte (codes "T") then Some (codes "%H:%M:%S")
    else (if c == byte (codes "x") then Some (codes "%m/%d/%y")
    else (if c == byte (codes "X") then Some (codes "%H:%M:%S")
    else None)))))))

-- a flag
unfoldable pub flag_named : ℕ → Option Padding
flag_named c =
    if c == byte (codes "-") then Some padding.None
    else (if c == byte (codes "_") then Some padding.Space
    else (if c == byte (codes "0") then Some padding.Zero
    else None))

-- how many digits of a fraction may be asked for
unfoldable pub width : ℕ → Option SubsecondDigits
width c =
    if c == byte (codes "3") then Some digits.Three
    else (if c == byte (codes "6") then Some digits.Six
    else (if c == byte (codes "9") then Some digits.Nine
    else None))

-- bytes that are written so: a percent sign, a line feed, a tab
unfoldable pub sign : ℕ → Option (List ℕ)
sign c =
    if c == byte (codes "%") then Some (37 ∷ [])
    else (if c == byte (codes "n") then Some (10 ∷ [])
    else (if c == byte (codes "t") then Some (9 ∷ [])
    else None))

-- why a letter is refused that is no number, behind a flag or none
unfoldable pub refusal : ℕ → StrftimeReason
refusal c =
    if c == byte (codes "Z") then ZoneName
    else (if c == byte (codes "E") || c == byte (codes "O") then LocaleModifier c
    else (if c == byte (codes "^") || c == byte (codes "#") then CaseFlag c
    else (if c == byte (codes "+") then PlusFlag
    else (if c == byte (codes "-") || (c == byte (codes "_") || c == byte (codes "0")) then SecondFlag c
    else (if nat_le (byte (codes "1")) c && nat_le c (byte (codes "9")) then FieldWidth c
    else UnknownConversion c)))))

-- a letter that stands for one component
abbrev pub component_of : ℕ → Option Component
component_of c = otherwise (number c None) (word c)

-- a letter that stands for something and for no number
abbrev pub is_offered : ℕ → Bool
is_offered c = is_some (word c) || (is_some (sign c) || (c == byte (codes "z") || is_some (composition c)))

-- why a letter is refused behind a flag, where it is no number
abbrev pub refusal_behind_flag : ℕ → StrftimeReason
refusal_behind_flag c = if is_offered c then FlagWithoutNumber c else refusal c

-- a composition: components, and the bytes between them
abbrev pub listed : Option Component → List Tree
listed None = []
listed (Some c) = of_component c ∷ []

unfoldable pub composed : List ℕ → List Tree
composed [] = []
composed (b ∷ []) = literal_of (b ∷ []) ∷ []
composed (b ∷ c ∷ bs) =
    if b == byte (codes "%") then listed (component_of c) ++ composed bs
    else literal_of (b ∷ []) ∷ composed (c ∷ bs)

-- the hours of the offset from UTC with their sign, perhaps a colon, and its minutes
abbrev pub offset_hour : Tree
offset_hour = of_component (component.OffsetHour (record { padding = padding.Zero; sign_is_mandatory = true }))

abbrev pub offset_minute : Tree
offset_minute = of_component (component.OffsetMinute (record { padding = padding.Zero }))

abbrev pub offset : Bool → List Tree
offset false = offset_hour ∷ offset_minute ∷ []
offset true = offset_hour ∷ literal_of (codes ":") ∷ offset_minute ∷ []

-- the fraction of so many digits
abbrev pub fraction : Option SubsecondDigits → Tree
fraction n = of_component (component.Subsecond (record { digits = unwrap_or n digits.Nine }))

-- what a letter stands for that has no flag
abbrev pub items_of : ℕ → Option (List Tree)
items_of c =
    otherwise (option_map (λ x. of_component x ∷ []) (component_of c))
    (otherwise (option_map (λ bytes. literal_of bytes ∷ []) (sign c))
    (otherwise (if c == byte (codes "z") then Some (offset false) else None)
    (option_map composed (composition c))))
