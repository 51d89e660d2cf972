-- The texts of `Display` are those of the descriptions that spell them.
use Rattle.std.proofs.Common.{◌≡◌, ℕ, ◌/◌, ◌%◌, ◌<◌, ◌||◌, true, false}
use Rattle.std.proofs.Common.{List, [], ◌∷◌, ◌++◌, decimal, refl, sym, ap, ap₂, ◌∙◌}
use Rattle.std.proofs.Common.{arith, append_assoc, append-nil}
use Rattle.std.specs.Prelude.{codes, Some, ℤ, pos, negsuc, int_lt, unsigned_abs}
use Rattle.time_below.specs.Calendar.{OrdinalDate, month_of, day_of}
use Rattle.time_below.specs.DateText.{padded_decimal, year_sign, date_text}
use Rattle.time_below.specs.DateTimeText.{plain_text, utc_text, local_text, moment_text}
use Rattle.time_below.proofs.MomentLemmas.{IsTimeOfDay-utc_time}
use Rattle.time_below.specs.Facts.{facts_of_date, facts_of_time, facts_of_offset, facts_of_plain_date_time}
use Rattle.time_below.specs.Facts.{facts_of_utc_date_time, facts_of_offset_date_time, facts_of_timestamp, date_facts}
use Rattle.time_below.specs.Moment.{Moment, IsMoment, DateAndTime, OffsetDateAndTime, unix_seconds, utc_date_and_time}
use Rattle.time_below.specs.Offset.{Offset, IsOffset, is_negative, utc}
use Rattle.time_below.specs.OffsetText.{offset_text}
use Rattle.time_below.specs.Text.{two_digits, decimals}
use Rattle.time_below.specs.TimeOfDay.{TimeOfDay, IsTimeOfDay}
use Rattle.time_below.specs.TimeText.{time_text}
use Rattle.time_digits.specs.Digits.{fixed, zero_padded}
use Rattle.time_digits.proofs.DigitLemmas.{fixed-append, fixed-mod, zero_padded_is, decimal_one}
use Rattle.time_fmt.proofs.TextLemmas.{zero_padded_is_zeros}
use Rattle.time_fmt.specs.Outcome.{done}
use Rattle.time_fmt.specs.Text.{sign_text}
use Rattle.time.specs.DisplayText.{date_items, time_items, offset_items, date_time_items, utc_items, local_items, Spell}
use Rattle.time_digits.specs.Fraction.{trimmed_fraction}
use Rattle.time.proofs.DecimalLemmas.{fraction_is_decimals}

-- ---- numbers and signs

-- two digits are two places with zeros
pub two_places : (n : ℕ) → n < 100 → zero_padded 2 n ≡ two_digits n
two_places n h =
    let tens : fixed 1 (n / 10) ≡ decimal (n / 10) = sym (decimal_one (n / 10) (omega arith)) in
    let ones : fixed 1 n ≡ decimal (n % 10) = sym (fixed-mod 1 n) ∙ sym (decimal_one (n % 10) (omega arith)) in
    zero_padded_is 1 n (omega arith) (omega arith) ∙ fixed-append 1 1 n ∙ ap₂ (λ a b. a ++ b) tens ones

-- the sign of a year
pub sign_of_year : (y : ℤ) → sign_text (int_lt y (pos 0)) (false || int_lt (pos 9_999) y) ≡ year_sign y
sign_of_year (pos n) = refl
sign_of_year (negsuc n) = refl

-- ---- dates

-- the parts of a date, before any text
date_parts : (s y m d t z n e rest : List ℕ) → s ≡ t → y ≡ z → m ≡ n → d ≡ e
    → (s ++ y) ++ (45 ∷ (m ++ (45 ∷ (d ++ rest)))) ≡ (t ++ z ++ codes "-" ++ n ++ codes "-" ++ e) ++ rest
date_parts s y m d t z n e rest sign year month day = rw (sign, year, month, day) (simp append_assoc)

-- what the components of a date give, before any text
date_front : (d : OrdinalDate) (rest : List ℕ)
    → (sign_text (int_lt d.year (pos 0)) (false || int_lt (pos 9_999) d.year) ++ zero_padded 4 (unsigned_abs d.year))
    ++ (45 ∷ (zero_padded 2 (month_of d) ++ (45 ∷ (zero_padded 2 (day_of d) ++ rest))))
    ≡ date_text d ++ rest
date_front d rest = date_parts _ _ _ _ (year_sign d.year) (padded_decimal 4 (unsigned_abs d.year))
    (padded_decimal 2 (month_of d)) (padded_decimal 2 (day_of d)) rest (sign_of_year d.year)
    (zero_padded_is_zeros 4 (unsigned_abs d.year)) (zero_padded_is_zeros 2 (month_of d))
    (zero_padded_is_zeros 2 (day_of d))

pub date_spelled : (d : OrdinalDate) → Spell date_items (facts_of_date d) (date_text d)
date_spelled d = ap done (date_front d [] ∙ append-nil (date_text d))

-- ---- offsets

-- the parts of an offset, before any text
offset_parts : (s h m d i n e rest : List ℕ) → h ≡ i → m ≡ n → d ≡ e
    → (s ++ h) ++ (58 ∷ (m ++ (58 ∷ (d ++ rest)))) ≡ (s ++ i ++ codes ":" ++ n ++ codes ":" ++ e) ++ rest
offset_parts s h m d i n e rest hours minutes seconds = rw (hours, minutes, seconds) (simp append_assoc)

-- what the components of an offset give, before any text
offset_front : (o : Offset) (rest : List ℕ) → IsOffset o
    → (sign_text (is_negative o) true ++ zero_padded 2 (unsigned_abs o.hours))
    ++ (58 ∷ (zero_padded 2 (unsigned_abs o.minutes) ++ (58 ∷ (zero_padded 2 (unsigned_abs o.seconds) ++ rest))))
    ≡ offset_text o ++ rest
offset_front o rest h = offset_parts (sign_text (is_negative o) true) _ _ _ (two_digits (unsigned_abs o.hours))
    (two_digits (unsigned_abs o.minutes)) (two_digits (unsigned_abs o.seconds)) rest
    (two_places (unsigned_abs o.hours) (omega arith)) (two_places (unsigned_abs o.minutes) (omega arith))
    (two_places (unsigned_abs o.seconds) (omega arith))

pub offset_spelled : (o : Offset) → IsOffset o → Spell offset_items (facts_of_offset o) (offset_text o)
offset_spelled o h = ap done (offset_front o [] h ∙ append-nil (offset_text o))

-- ---- times

-- the parts of a time, before any text
time_parts : (h m s f n e g rest : List ℕ) → m ≡ n → s ≡ e → f ≡ g
    → h ++ (58 ∷ (m ++ (58 ∷ (s ++ (46 ∷ (f ++ rest))))))
    ≡ (h ++ codes ":" ++ n ++ codes ":" ++ e ++ codes "." ++ g) ++ rest
time_parts h m s f n e g rest minute second fraction = rw (minute, second, fraction) (simp append_assoc)

-- what the components of a time give, before any text
time_front : (t : TimeOfDay) (rest : List ℕ) → IsTimeOfDay t
    → decimal t.hour ++ (58 ∷ (zero_padded 2 t.minute ++ (58 ∷ (zero_padded 2 t.second
    ++ (46 ∷ (trimmed_fraction t.nanosecond ++ rest))))))
    ≡ time_text t ++ rest
time_front t rest h = time_parts (decimal t.hour) _ _ _ (two_digits t.minute) (two_digits t.second)
    (decimals 9 t.nanosecond) rest (two_places t.minute (omega arith)) (two_places t.second (omega arith))
    (fraction_is_decimals t.nanosecond h.3)

pub time_spelled : (t : TimeOfDay) → IsTimeOfDay t → Spell time_items (facts_of_time t) (time_text t)
time_spelled t h = ap done (time_front t [] h ∙ append-nil (time_text t))

-- ---- dates with a time

-- the date, a space and the rest
spaced : (d rest tail : List ℕ) → rest ≡ tail → d ++ (32 ∷ rest) ≡ (d ++ codes " ") ++ tail
spaced d rest tail h = rw h (sym (append_assoc d (codes " ") tail))

pub plain_spelled : (v : DateAndTime) → IsTimeOfDay v.time
    → Spell date_time_items (facts_of_plain_date_time v) (plain_text v)
plain_spelled v h = ap done (date_front v.date _ ∙ spaced (date_text v.date) _ (time_text v.time)
    (time_front v.time [] h ∙ append-nil (time_text v.time)))

-- in UTC, with any moment
utc_with_moment : (v : DateAndTime) (m : Moment) → IsTimeOfDay v.time
    → Spell utc_items
    (record { date = Some (date_facts v.date); time = Some v.time; offset = Some utc; moment = Some m })
    (utc_text v)
utc_with_moment v m h = ap done (date_front v.date _
    ∙ spaced (date_text v.date) _ (time_text v.time ++ codes " +00") (time_front v.time (codes " +00") h)
    ∙ sym (append_assoc (date_text v.date ++ codes " ") (time_text v.time) (codes " +00")))

pub utc_spelled : (v : DateAndTime) → IsTimeOfDay v.time → Spell utc_items (facts_of_utc_date_time v) (utc_text v)
utc_spelled v h = utc_with_moment v (record { seconds = unix_seconds v; nanosecond = v.time.nanosecond }) h

-- a moment, by its date and time in UTC
pub moment_spelled : (m : Moment) → IsMoment m → Spell utc_items (facts_of_timestamp m) (moment_text m)
moment_spelled m h =
    let v = utc_date_and_time m in
    utc_with_moment v m (IsTimeOfDay-utc_time m h)

pub local_spelled : (v : OffsetDateAndTime) → IsTimeOfDay v.time → IsOffset v.offset
    → Spell local_items (facts_of_offset_date_time v) (local_text v)
local_spelled v h k =
    let d = date_text v.date in
    let t = time_text v.time in
    let o = offset_text v.offset in
    let zone = offset_front v.offset [] k ∙ append-nil o in
    ap done (date_front v.date _
    ∙ spaced d _ (t ++ (32 ∷ o)) (time_front v.time _ h ∙ ap (λ z. t ++ (32 ∷ z)) zone)
    ∙ sym (append_assoc (d ++ codes " ") t (32 ∷ o)) ∙ sym (append_assoc ((d ++ codes " ") ++ t) (codes " ") o))
