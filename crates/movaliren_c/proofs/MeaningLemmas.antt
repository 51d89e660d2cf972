-- What a local date and time means.
use Rattle.std.proofs.Common.{◌≡◌, ℕ, ℤ, pos, ◌-ℤ◌, Bool, true, Result, Ok, refl, sym, ap, ◌∙◌, subst, arith}
use Rattle.std.proofs.lemmas.Bool.{and_parts}
use Rattle.std.proofs.lemmas.Bool.Decides.{nat_tests}
use Rattle.std.proofs.lemmas.Int.{ints}
use Rattle.movaliren_c.specs.Utc.{Means, with_offset, utc_value, east_value, local_there, local_value}
use Rattle.movaliren_c.specs.Value.{checked, with_value, timestamp_value}
use Rattle.movaliren_c.specs.declared.answers.reason.Reason.{Reason}
use Rattle.time_below.specs.Moment.{Moment, OffsetDateAndTime, IsMoment, local_at, moved, unix_seconds, utc_date_and_time}
use Rattle.time_below.specs.Offset.{Offset, IsOffset, offset_seconds, utc}
use Rattle.time_below.proofs.MomentLemmas.{IsDate-utc_date, IsTimeOfDay-utc_time, unix_seconds-utc, local_unix_seconds-local_at, only_local_at}
use Rattle.time_below.proofs.OffsetLemmas.{IsOffset-of_seconds, offset_back, one_offset_of_seconds}
use Rattle.std.proofs.lemmas.Grind.{common_steps}

-- ---- what a value that there is comes of

pub value_of_given : {A B : Type 0} (value : Result A Reason) (next : A → Result B Reason) (b : B)
    → with_value value next ≡ Ok b → (a : A) × (value ≡ Ok a) × (next a ≡ Ok b)
value_of_given value next b h = grind (arith, common_steps)

pub test_that_passed : {A : Type 0} (test : Bool) (r : Reason) (rest : Result A Reason) (a : A)
    → checked test r rest ≡ Ok a → (test ≡ true) × (rest ≡ Ok a)
test_that_passed test r rest a h = grind (arith, common_steps)

pub same_value : {A : Type 0} (a b : A) → ◌≡◌ {A = Result A Reason} (Ok a) (Ok b) → a ≡ b
same_value a b h = let e = h in cc

-- ---- moments

is_moment : (s : ℤ) (n : ℕ) (m : Moment) → timestamp_value s n ≡ Ok m
    → IsMoment m × (m.seconds ≡ s) × (m.nanosecond ≡ n)
unfolding timestamp_value
is_moment s n m h = grind (arith, common_steps, and_parts, ints, nat_tests)

-- a date and time in UTC of a real moment
in_utc : (s : ℤ) (n : ℕ) (t : OffsetDateAndTime) → utc_value s n ≡ Ok t
    → (m : Moment) × IsMoment m × (m.seconds ≡ s) × (m.nanosecond ≡ n) × (t ≡ with_offset utc (utc_date_and_time m))
unfolding utc_value
in_utc s n t h =
    let given = value_of_given (timestamp_value s n) (λ m. Ok (with_offset utc (utc_date_and_time m))) t h in
    let m = is_moment s n given.0 given.1 in
    (given.0, m.0, m.1, m.2, sym (same_value (with_offset utc (utc_date_and_time given.0)) t given.2))

-- ---- what they mean

-- the offset of so many seconds is one, and has so many seconds
offset_of : (east : ℤ) (o : Offset) → east_value east ≡ Ok o → IsOffset o × (offset_seconds o ≡ east)
offset_of east o h = grind (arith, common_steps, IsOffset-of_seconds, nat_tests, offset_back)

-- the local date and time of a moment
local_of : (m : Moment) (o : Offset) (t : OffsetDateAndTime) → IsMoment m → local_there m o ≡ Ok t
    → IsMoment (moved m o) × (t ≡ local_at m o)
local_of m o t real h = grind (arith, test_that_passed, and_parts, ints, same_value)

pub local_means : (s : ℤ) (n : ℕ) (east : ℤ) (t : OffsetDateAndTime) → local_value s n east ≡ Ok t → Means s n east t
unfolding local_value
local_means s n east t h =
    let first = value_of_given (timestamp_value s n) (λ m. with_value (east_value east) (λ o. local_there m o)) t h in
    let m = first.0 in
    let is = is_moment s n m first.1 in
    let second = value_of_given (east_value east) (λ o. local_there m o) t first.2 in
    let o = offset_of east second.0 second.1 in
    let there = local_of m second.0 t is.0 second.2 in
    let means : Means m.seconds m.nanosecond east (local_at m second.0) = record {
      date = IsDate-utc_date (moved m second.0) there.0;
      time = IsTimeOfDay-utc_time (moved m second.0) there.0;
      offset = o.0;
      moment = local_unix_seconds-local_at m second.0 there.0;
      forward = refl;
      ahead = o.1;
    } in
    subst (λ x. Means s n east x) (sym there.1)
    (subst (λ x. Means x n east (local_at m second.0)) is.1 (subst (λ x. Means m.seconds x east (local_at m second.0)) is.2 means))

less_none : (s : ℤ) → s -ℤ pos 0 ≡ s
less_none s = omega (arith, ints)

pub utc_means : (s : ℤ) (n : ℕ) (t : OffsetDateAndTime) → utc_value s n ≡ Ok t → Means s n (pos 0) t
utc_means s n t h =
    let at = in_utc s n t h in
    let m = at.0 in
    let P : OffsetDateAndTime → Type 0 = Means s n (pos 0) in
    let means : P (with_offset utc (utc_date_and_time m)) = record {
      date = IsDate-utc_date m at.1;
      time = IsTimeOfDay-utc_time m at.1;
      offset = IsOffset-of_seconds (pos 0) (omega arith);
      moment = less_none (unix_seconds (utc_date_and_time m)) ∙ unix_seconds-utc m at.1 ∙ at.2;
      forward = at.3;
      ahead = refl;
    } in
    subst P (sym at.4) means

pub only_one : (s : ℤ) (n : ℕ) (east : ℤ) (t u : OffsetDateAndTime) → Means s n east t → Means s n east u → t ≡ u
only_one s n east t u a b =
    let m : Moment = record { seconds = s; nanosecond = n } in
    only_local_at m t a.date a.time a.moment a.forward
    ∙ ap (local_at m) (one_offset_of_seconds t.offset u.offset a.offset b.offset (a.ahead ∙ sym b.ahead))
    ∙ sym (only_local_at m u b.date b.time b.moment b.forward)
