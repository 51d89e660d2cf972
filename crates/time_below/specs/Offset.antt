-- The offset of local time from UTC (ISO 8601-1:2019, 4.3.13).
use Rattle.std.specs.Prelude.{◌≡◌, ℕ, ◌/◌, ◌%◌, ℤ, ◌≤◌, pos, neg_ℤ, ◌+ℤ◌, ◌*ℤ◌, ◌<ℤ◌, ◌≤ℤ◌, unsigned_abs, int_lt, if◌then◌else◌}
use Rattle.std.specs.Prelude.{Bool, ◌||◌, ◌&&◌, ◌==◌}

-- its parts, which never have two signs
pub record Offset : Type 0 where
  pub hours : ℤ
  pub minutes : ℤ
  pub seconds : ℤ

-- the parts of an offset are in their ranges: at most 25:59:59 either way
abbrev pub AreOffsetParts : ℤ → ℤ → ℤ → Type 0
AreOffsetParts h m s = (unsigned_abs h ≤ 25) × (unsigned_abs m ≤ 59) × (unsigned_abs s ≤ 59)

-- the second part does not have the opposite sign of the first
abbrev pub HasNoOtherSign : ℤ → ℤ → Type 0
HasNoOtherSign lead x = (pos 0 <ℤ lead → pos 0 ≤ℤ x) × (lead <ℤ pos 0 → x ≤ℤ pos 0)

-- the parts of an offset are in their ranges and have one sign at most
abbrev pub IsOffset : Offset → Type 0
IsOffset o =
    AreOffsetParts o.hours o.minutes o.seconds × HasNoOtherSign o.hours o.minutes
    × HasNoOtherSign o.hours o.seconds
    × HasNoOtherSign o.minutes o.seconds

-- the size of x with the sign of lead, or x where lead is 0
abbrev pub signed_like : ℤ → ℤ → ℤ
signed_like lead x =
    if int_lt (pos 0) lead then pos (unsigned_abs x)
    else (if int_lt lead (pos 0) then neg_ℤ (pos (unsigned_abs x)) else x)

-- the later parts take the sign of the first part that is not zero
abbrev pub settled : ℤ → ℤ → ℤ → Offset
settled h m s =
    record { hours = h; minutes = signed_like h m; seconds = signed_like h (signed_like m s) }

-- what three parts become whose signs may differ: each keeps its size, the first that is not zero keeps
-- its sign, and none has the other sign
pub record Settles (h m s : ℤ) (o : Offset) : Type 0 where
  pub hours_size : unsigned_abs o.hours ≡ unsigned_abs h
  pub minutes_size : unsigned_abs o.minutes ≡ unsigned_abs m
  pub seconds_size : unsigned_abs o.seconds ≡ unsigned_abs s
  pub hours_kept : o.hours ≡ h
  pub minutes_kept : h ≡ pos 0 → o.minutes ≡ m
  pub seconds_kept : h ≡ pos 0 → m ≡ pos 0 → o.seconds ≡ s
  pub minutes_like_hours : HasNoOtherSign o.hours o.minutes
  pub seconds_like_hours : HasNoOtherSign o.hours o.seconds
  pub seconds_like_minutes : HasNoOtherSign o.minutes o.seconds

-- some part is below zero
abbrev pub is_negative : Offset → Bool
is_negative o = int_lt o.hours (pos 0) || int_lt o.minutes (pos 0) || int_lt o.seconds (pos 0)

-- some part is above zero
abbrev pub is_positive : Offset → Bool
is_positive o = int_lt (pos 0) o.hours || int_lt (pos 0) o.minutes || int_lt (pos 0) o.seconds

-- all parts are zero
abbrev pub is_utc : Offset → Bool
is_utc o = (unsigned_abs o.hours == 0) && (unsigned_abs o.minutes == 0) && (unsigned_abs o.seconds == 0)

-- the offset of UTC itself
abbrev pub utc : Offset
utc = record { hours = pos 0; minutes = pos 0; seconds = pos 0 }

-- a number with its sign
abbrev pub signed : Bool → ℕ → ℤ
signed is_negative n = if is_negative then neg_ℤ (pos n) else pos n

-- hours and minutes that have the same sign
abbrev pub signed_offset : Bool → ℕ → ℕ → Offset
signed_offset is_negative hour minute =
    record { hours = signed is_negative hour; minutes = signed is_negative minute; seconds = pos 0 }

-- the hours and the minutes, in minutes
abbrev pub offset_minutes : Offset → ℤ
offset_minutes o = pos 60 *ℤ o.hours +ℤ o.minutes

-- the whole offset in seconds
abbrev pub offset_seconds : Offset → ℤ
offset_seconds o = pos 3600 *ℤ o.hours +ℤ pos 60 *ℤ o.minutes +ℤ o.seconds

-- the offset of this many seconds, by parts of one sign
abbrev pub offset_of_seconds : ℤ → Offset
offset_of_seconds seconds =
    let size = unsigned_abs seconds in
    let sign = int_lt seconds (pos 0) in
    record {
      hours = signed sign (size / 3600);
      minutes = signed sign (size % 3600 / 60);
      seconds = signed sign (size % 60);
    }
