-- The signs of an offset's parts.
use Rattle.std.proofs.Common.{◌≡◌, ◌∙◌, ℕ, ◌+◌, ◌/◌, ◌<◌, ◌≤◌, ◌⊎◌, inl, inr, Bool, true, false, refl}
use Rattle.std.proofs.Common.{◌*◌, ◌^◌, w8, w32, to_z, of_z}
use Rattle.std.proofs.Common.{ap, sym, arith, Ordering, Less, Equal, Greater, ℤ, pos, negsuc, neg_ℤ, ◌+ℤ◌, ◌*ℤ◌, ◌<ℤ◌, ◌≤ℤ◌, unsigned_abs}
use Rattle.std.specs.Cmp.{int_cmp_is, int_ranks}
use Rattle.std.specs.Bool.{Decides}
use Rattle.std.specs.Ordering.{MatchOrdering, ordering_then, int_cmp, int_eq}
use Rattle.std.specs.Prelude.{int_div, int_lt, ◌||◌, ◌&&◌}
use Rattle.std.proofs.lemmas.Bool.{cases_lt, and_parts, and_from}
use Rattle.std.proofs.lemmas.Bool.Decides.{nat_tests, Decides-int_eq}
use Rattle.std.proofs.lemmas.Int.{ints, by_lt_z}
use Rattle.time_below.specs.Offset.{Offset, AreOffsetParts, HasNoOtherSign, IsOffset}
use Rattle.time_below.specs.Offset.{is_negative, is_utc, signed, signed_offset, utc, offset_of_seconds, offset_minutes, offset_seconds}
use Rattle.std.proofs.lemmas.Grind.{common_steps}

-- two parts that are not below zero have one sign
parts_above_zero_have_one_sign : (y z : ℤ) (a b : ℕ) → y ≡ pos a → z ≡ pos b → HasNoOtherSign y z
parts_above_zero_have_one_sign y z a b e f = (λ h. omega (arith, ints), λ h. absurd (omega (arith, ints)))

-- two parts that are not above zero have one sign
parts_below_zero_have_one_sign : (y z : ℤ) (a b : ℕ) → y ≡ neg_ℤ (pos a) → z ≡ neg_ℤ (pos b) → HasNoOtherSign y z
parts_below_zero_have_one_sign y z a b e f = grind (arith, ints)

-- what holds for each sign of a part holds
for_each_sign : (P : Type 0) (lead : ℤ) → (pos 0 <ℤ lead → P) → (lead <ℤ pos 0 → P)
    → (lead ≡ pos 0 → P) → P
for_each_sign P lead above below at_zero = grind (arith, by_lt_z, ints)

-- a number and its negative have one size
size_negated : (n : ℕ) → unsigned_abs (neg_ℤ (pos n)) ≡ n
size_negated n = grind (arith, common_steps)

-- equal parts make equal offsets
same_parts : (h m s x y z : ℤ) → x ≡ h → y ≡ m → z ≡ s
    → ◌≡◌ {A = Offset} (record { hours = x; minutes = y; seconds = z }) (record { hours = h; minutes = m; seconds = s })
same_parts h m s x y z hours minutes seconds = rw (hours, minutes, seconds) refl

-- ---- offsets without seconds

-- a number with a sign has its size
pub abs_signed : (b : Bool) (n : ℕ) → unsigned_abs (signed b n) ≡ n
abs_signed b n = grind (arith, common_steps, size_negated)

-- a number is its size with its sign
pub signed_size : (y : ℤ) → y ≡ signed (int_lt y (pos 0)) (unsigned_abs y)
signed_size y = grind (arith, common_steps, nat_tests)

-- two parts with one sign have the sign of the offset
own_sign : (h m : ℤ) → HasNoOtherSign h m
    → (signed (int_lt h (pos 0) || int_lt m (pos 0) || false) (unsigned_abs h) ≡ h)
    × (signed (int_lt h (pos 0) || int_lt m (pos 0) || false) (unsigned_abs m) ≡ m)
own_sign h m k = grind (arith, common_steps, nat_tests, ints)

-- an offset without seconds is its sign, its hours and its minutes
pub offset_is : (o : Offset) → IsOffset o → unsigned_abs o.seconds ≡ 0
    → o ≡ signed_offset (is_negative o) (unsigned_abs o.hours) (unsigned_abs o.minutes)
offset_is o h e = grind (arith, common_steps, own_sign, same_parts)

-- an offset made with a sign has that sign, unless it is zero
pub is_negative-signed_offset : (b : Bool) (h m : ℕ) → 0 < h + m → is_negative (signed_offset b h m) ≡ b
is_negative-signed_offset b h m k = grind (arith, common_steps, nat_tests)

-- two parts of one sign
parts_of_one_sign : (b : Bool) (x y : ℕ) → HasNoOtherSign (signed b x) (signed b y)
parts_of_one_sign false x y = parts_above_zero_have_one_sign _ _ x y refl refl
parts_of_one_sign true x y = parts_below_zero_have_one_sign _ _ x y refl refl

-- a part that is zero has no opposite sign
zero_has_no_sign : (b : Bool) (x : ℕ) → HasNoOtherSign (signed b x) (pos 0)
zero_has_no_sign b x = grind (arith, common_steps, parts_above_zero_have_one_sign, parts_below_zero_have_one_sign)

-- an offset made with a sign is in its ranges
pub IsOffset-signed_offset : (b : Bool) (h m : ℕ) → h ≤ 25 → m < 60 → IsOffset (signed_offset b h m)
IsOffset-signed_offset b h m p q = grind (arith, abs_signed, parts_of_one_sign, zero_has_no_sign)

-- an offset without seconds has hours or minutes, or is zero
pub some_or_zero : (o : Offset) → unsigned_abs o.seconds ≡ 0
    → (0 < unsigned_abs o.hours + unsigned_abs o.minutes) ⊎ (o ≡ utc)
some_or_zero o e = grind (arith, common_steps, same_parts, cases_lt)

-- an offset with hours or minutes is not the offset zero
pub not_utc : (o : Offset) → 0 < unsigned_abs o.hours + unsigned_abs o.minutes → o ≡ utc → ⊥
not_utc o some e = grind arith

-- an offset with hours or minutes is not UTC
pub is_utc-not : (o : Offset) → 0 < unsigned_abs o.hours + unsigned_abs o.minutes → is_utc o ≡ false
is_utc-not o some = grind (arith, nat_tests)

-- an offset that the test calls UTC is zero
pub utc_from_test : (o : Offset) → is_utc o ≡ true → o ≡ utc
utc_from_test o e = grind (arith, common_steps, nat_tests, same_parts)

-- the offset zero is UTC
pub is_utc-utc : (o : Offset) → o ≡ utc → is_utc o ≡ true
is_utc-utc o e = ap is_utc e

-- ---- offsets by their seconds

-- parts of one sign make an offset
pub IsOffset-signed : (b : Bool) (h m s : ℕ) → h ≤ 25 → m ≤ 59 → s ≤ 59
    → IsOffset (record { hours = signed b h; minutes = signed b m; seconds = signed b s })
IsOffset-signed b h m s x y z = grind (arith, abs_signed, parts_of_one_sign)

-- the offset of so many seconds has so many
pub offset_back : (z : ℤ) → offset_seconds (offset_of_seconds z) ≡ z
offset_back z = grind (arith, signed_size)

-- less than 26 hours are an offset
pub IsOffset-of_seconds : (z : ℤ) → unsigned_abs z < 93_600 → IsOffset (offset_of_seconds z)
IsOffset-of_seconds z h = grind (arith, IsOffset-signed)

-- all parts are on one side of zero
IsOneSided : ℤ → ℤ → ℤ → Type 0
IsOneSided h m s = ((pos 0 ≤ℤ h) × (pos 0 ≤ℤ m) × (pos 0 ≤ℤ s)) ⊎ ((h ≤ℤ pos 0) × (m ≤ℤ pos 0) × (s ≤ℤ pos 0))

one_sided : (o : Offset) → IsOffset o → IsOneSided o.hours o.minutes o.seconds
unfolding IsOneSided
one_sided o real = grind (arith, for_each_sign, IsOneSided, ints, by_lt_z)

-- an offset with fewer hours has fewer seconds
fewer_hours : (h m s h' m' s' : ℤ) → AreOffsetParts h m s → AreOffsetParts h' m' s' → IsOneSided h m s → IsOneSided h' m' s'
    → h <ℤ h' → (pos 3600 *ℤ h +ℤ pos 60 *ℤ m +ℤ s) <ℤ (pos 3600 *ℤ h' +ℤ pos 60 *ℤ m' +ℤ s')
unfolding IsOneSided
fewer_hours h m s h' m' s' a b (inl p) (inl q) e = omega (arith, ints)
fewer_hours h m s h' m' s' a b (inl p) (inr q) e = omega (arith, ints)
fewer_hours h m s h' m' s' a b (inr p) (inl q) e = omega (arith, ints)
fewer_hours h m s h' m' s' a b (inr p) (inr q) e = omega (arith, ints)

-- so has one with as many hours and fewer minutes
fewer_minutes : (h m s h' m' s' : ℤ) → AreOffsetParts h m s → AreOffsetParts h' m' s' → IsOneSided h m s → IsOneSided h' m' s'
    → h ≡ h' → m <ℤ m' → (pos 3600 *ℤ h +ℤ pos 60 *ℤ m +ℤ s) <ℤ (pos 3600 *ℤ h' +ℤ pos 60 *ℤ m' +ℤ s')
unfolding IsOneSided
fewer_minutes h m s h' m' s' a b (inl p) (inl q) d e = omega (arith, ints)
fewer_minutes h m s h' m' s' a b (inl p) (inr q) d e = omega (arith, ints)
fewer_minutes h m s h' m' s' a b (inr p) (inl q) d e = omega (arith, ints)
fewer_minutes h m s h' m' s' a b (inr p) (inr q) d e = omega (arith, ints)

-- the first parts that differ decide as the seconds do
ranks_of_parts : (o p : Offset) → IsOffset o → IsOffset p → (x y z : Ordering)
    → MatchOrdering x (o.hours <ℤ p.hours) (o.hours ≡ p.hours) (p.hours <ℤ o.hours)
    → MatchOrdering y (o.minutes <ℤ p.minutes) (o.minutes ≡ p.minutes) (p.minutes <ℤ o.minutes)
    → MatchOrdering z (o.seconds <ℤ p.seconds) (o.seconds ≡ p.seconds) (p.seconds <ℤ o.seconds)
    → MatchOrdering (ordering_then x (ordering_then y z)) (offset_seconds o <ℤ offset_seconds p)
    (offset_seconds o ≡ offset_seconds p) (offset_seconds p <ℤ offset_seconds o)
ranks_of_parts o p a b Less y z h m s = fewer_hours _ _ _ _ _ _ a.0 b.0 (one_sided o a) (one_sided p b) h
ranks_of_parts o p a b Greater y z h m s = fewer_hours _ _ _ _ _ _ b.0 a.0 (one_sided p b) (one_sided o a) h
ranks_of_parts o p a b Equal Less z h m s = fewer_minutes _ _ _ _ _ _ a.0 b.0 (one_sided o a) (one_sided p b) h m
ranks_of_parts o p a b Equal Greater z h m s = fewer_minutes _ _ _ _ _ _ b.0 a.0 (one_sided p b) (one_sided o a) (sym h) m
ranks_of_parts o p a b Equal Equal Less h m s = omega (arith, ints)
ranks_of_parts o p a b Equal Equal Equal h m s = omega (arith, ints)
ranks_of_parts o p a b Equal Equal Greater h m s = omega (arith, ints)

-- what is less is not equal
less_is_not_equal : (y z : ℤ) → y <ℤ z → y ≡ z → ⊥
less_is_not_equal y z h e = omega (arith, ints)

-- offsets of as many seconds have the same parts, since the first that differ would decide
parts_of_equal : (o p : Offset) → IsOffset o → IsOffset p → offset_seconds o ≡ offset_seconds p → (x y z : Ordering)
    → MatchOrdering x (o.hours <ℤ p.hours) (o.hours ≡ p.hours) (p.hours <ℤ o.hours)
    → MatchOrdering y (o.minutes <ℤ p.minutes) (o.minutes ≡ p.minutes) (p.minutes <ℤ o.minutes)
    → MatchOrdering z (o.seconds <ℤ p.seconds) (o.seconds ≡ p.seconds) (p.seconds <ℤ o.seconds) → o ≡ p
parts_of_equal o p a b e Less y z h m s = absurd (less_is_not_equal _ _ (ranks_of_parts o p a b Less y z h m s) e)
parts_of_equal o p a b e Greater y z h m s = absurd (less_is_not_equal _ _ (ranks_of_parts o p a b Greater y z h m s) (sym e))
parts_of_equal o p a b e Equal Less z h m s = absurd (less_is_not_equal _ _ (ranks_of_parts o p a b Equal Less z h m s) e)
parts_of_equal o p a b e Equal Greater z h m s =
    absurd (less_is_not_equal _ _ (ranks_of_parts o p a b Equal Greater z h m s) (sym e))
parts_of_equal o p a b e Equal Equal Less h m s =
    absurd (less_is_not_equal _ _ (ranks_of_parts o p a b Equal Equal Less h m s) e)
parts_of_equal o p a b e Equal Equal Greater h m s =
    absurd (less_is_not_equal _ _ (ranks_of_parts o p a b Equal Equal Greater h m s) (sym e))
parts_of_equal o p a b e Equal Equal Equal h m s =
    same_parts p.hours p.minutes p.seconds o.hours o.minutes o.seconds h m s

-- no other offset has as many seconds
pub one_offset_of_seconds : (o p : Offset) → IsOffset o → IsOffset p → offset_seconds o ≡ offset_seconds p → o ≡ p
one_offset_of_seconds o p a b e =
    parts_of_equal o p a b e _ _ _ (int_ranks o.hours p.hours) (int_ranks o.minutes p.minutes)
    (int_ranks o.seconds p.seconds)

-- parts in order compare as the seconds
pub parts_compare : (o p : Offset) → IsOffset o → IsOffset p
    → ordering_then (int_cmp o.hours p.hours) (ordering_then (int_cmp o.minutes p.minutes) (int_cmp o.seconds p.seconds))
    ≡ int_cmp (offset_seconds o) (offset_seconds p)
parts_compare o p a b =
    int_cmp_is _ _ _ (ranks_of_parts o p a b _ _ _ (int_ranks o.hours p.hours) (int_ranks o.minutes p.minutes)
    (int_ranks o.seconds p.seconds))

-- the test of each part is that of the offsets
pub same_offset : (o p : Offset)
    → Decides (int_eq o.hours p.hours && (int_eq o.minutes p.minutes && int_eq o.seconds p.seconds)) (o ≡ p)
same_offset o p = (
  λ test. let hours = and_parts _ _ test in
      let minutes = and_parts _ _ hours.1 in
      same_parts p.hours p.minutes p.seconds o.hours o.minutes o.seconds ((Decides-int_eq _ _).0 hours.0)
      ((Decides-int_eq _ _).0 minutes.0) ((Decides-int_eq _ _).0 minutes.1),
  λ same. and_from _ _ ((Decides-int_eq _ _).1 (ap (λ x. x.hours) same))
      (and_from _ _ ((Decides-int_eq _ _).1 (ap (λ x. x.minutes) same))
      ((Decides-int_eq _ _).1 (ap (λ x. x.seconds) same))),
)

-- a quotient by sixty has the sign of the number
sixtieth : (y : ℤ) → int_div y (pos 60) ≡ signed (int_lt y (pos 0)) (unsigned_abs y / 60)
sixtieth (pos n) = grind (arith, common_steps, nat_tests)
sixtieth (negsuc n) = refl

-- what is left of a minute is dropped
minutes_of_parts : (h m s : ℤ) → AreOffsetParts h m s → IsOneSided h m s
    → signed (int_lt (pos 3600 *ℤ h +ℤ pos 60 *ℤ m +ℤ s) (pos 0)) (unsigned_abs (pos 3600 *ℤ h +ℤ pos 60 *ℤ m +ℤ s) / 60)
    ≡ pos 60 *ℤ h +ℤ m
unfolding IsOneSided
minutes_of_parts h m s a (inl p) = grind (arith, common_steps, nat_tests, ints)
minutes_of_parts h m s a (inr p) = grind (arith, common_steps, nat_tests, ints)

-- the whole minutes of an offset
pub minutes_of_seconds : (o : Offset) → IsOffset o → int_div (offset_seconds o) (pos 60) ≡ offset_minutes o
minutes_of_seconds o real =
    sixtieth (offset_seconds o) ∙ minutes_of_parts o.hours o.minutes o.seconds real.0 (one_sided o real)

-- ---- numbers as the code holds them

-- a small number is held as it is
pub held_byte : (z : ℤ) → unsigned_abs z < 128 → to_z w8 (of_z w8 z) ≡ z
held_byte z h = omega (arith, ints)

pub held_word : (z : ℤ) → unsigned_abs z < 2 ^ 31 → to_z w32 (of_z w32 z) ≡ z
held_word z h = omega (arith, ints)

-- sixty to each whole and a part more are held as they are
pub held_sixtieths : (whole part : ℤ) → unsigned_abs whole < 1560 → unsigned_abs part ≤ 128
    → to_z w32 (of_z w32 (to_z w32 (of_z w32 (to_z w32 (of_z w32 whole) *ℤ pos 60)) +ℤ to_z w32 (of_z w32 part)))
    ≡ pos 60 *ℤ whole +ℤ part
held_sixtieths whole part w p =
    rw (held_word whole (omega arith), held_word (whole *ℤ pos 60) (omega (arith, ints)), held_word part (omega arith))
    (held_word (whole *ℤ pos 60 +ℤ part) (omega (arith, ints)) ∙ omega (arith, ints))

-- their size is at most sixty times that of the whole and that of the part
pub sixtieths_within : (whole part : ℤ)
    → unsigned_abs (pos 60 *ℤ whole +ℤ part) ≤ 60 * unsigned_abs whole + unsigned_abs part
sixtieths_within whole part = omega (arith, ints)

-- the hours and minutes of an offset are less than 26 hours, and so are all its parts
pub minutes_within : (h m r : ℤ) → unsigned_abs h ≤ 25 → unsigned_abs m ≤ 59 → r ≡ pos 60 *ℤ h +ℤ m
    → unsigned_abs r < 1560
minutes_within h m r a b e = omega (arith, ints)

pub seconds_within : (r s t : ℤ) → unsigned_abs r < 1560 → unsigned_abs s ≤ 59 → t ≡ pos 60 *ℤ r +ℤ s
    → unsigned_abs t < 93_600
seconds_within r s t a b e = omega (arith, ints)

-- the seconds of the parts of an offset
pub seconds_of_parts : (h m s r t : ℤ) → r ≡ pos 60 *ℤ h +ℤ m → t ≡ pos 60 *ℤ r +ℤ s
    → t ≡ pos 3600 *ℤ h +ℤ pos 60 *ℤ m +ℤ s
seconds_of_parts h m s r t e f = omega (arith, ints)
