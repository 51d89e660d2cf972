-- The offset of a zone's clock.
use Rattle.std.specs.Prelude.{ℤ, ◌≡◌, ◌⊎◌, pos, neg_ℤ, ◌+ℤ◌, ◌-ℤ◌, ◌*ℤ◌, ◌≤ℤ◌, Option, None, Some}
use Rattle.std.specs.Int.{int_div_euclid}
use Rattle.jiff_tz.specs.Zone.{next_at, offset_at, previous_at}
use Rattle.jiff_tz.specs.declared.info.OffsetInfo.{OffsetInfo}
use Rattle.jiff_tz.specs.declared.timezone.TimeZone.{TimeZone}
use Rattle.time_below.specs.Offset.{Offset, offset_seconds}

-- the nanosecond with which a second begins
abbrev pub nanosecond_of : ℤ → ℤ
nanosecond_of second = pos 1_000_000_000 *ℤ second

-- the second of a change, and the first of all where there is none
abbrev pub since : Option (ℤ × OffsetInfo) → ℤ
since None = neg_ℤ (pos 9_223_372_036_854_775_808)
since (Some change) = int_div_euclid change.0 (pos 1_000_000_000)

-- the second before a change, and the last of all where there is none
abbrev pub until : Option (ℤ × OffsetInfo) → ℤ
until None = pos 9_223_372_036_854_775_807
until (Some change) = int_div_euclid change.0 (pos 1_000_000_000) -ℤ pos 1

-- a second at which a zone has the offset, and the seconds from the zone's change before it to that after it
pub record IsSpan (zone : TimeZone) (asked first last : ℤ) (offset : Offset) : Type 0 where
  pub shown : offset_seconds offset ≡ offset_at zone (nanosecond_of asked)
  pub since : first ≡ since (previous_at zone (nanosecond_of asked +ℤ pos 1))
  pub until : last ≡ until (next_at zone (nanosecond_of asked))

-- the nearest second for which zones are asked, of -9999-01-02T01:59:59Z to 9999-12-30T22:00:00Z
abbrev pub IsNearest : ℤ → ℤ → Type 0
IsNearest second near =
    ((near ≡ second) ⊎ ((second ≤ℤ near) × (near ≡ neg_ℤ (pos 377_705_023_201))))
    ⊎ ((near ≤ℤ second) × (near ≡ pos 253_402_207_200))

-- the offset is that of the zone at the second, or at another one from which to this one the zone has no change
abbrev pub HasOffset : TimeZone → ℤ → Offset → Type 0
HasOffset zone second offset =
    (asked : ℤ) × (first : ℤ) × (last : ℤ) × IsSpan zone asked first last offset
    × (((first ≤ℤ second) × (second ≤ℤ last)) ⊎ IsNearest second asked)
