-- The nanoseconds of a moment, and the offset of what a clock shows.
use Rattle.std.proofs.Common.{◌≡◌, ℕ, ℤ, pos, negsuc, neg_ℤ, nat_abs, ◌+ℤ◌, ◌-ℤ◌, ◌*ℤ◌, ◌<◌, ◌∙◌, refl, w64, to_z, of_z, sym, subst, arith}
use Rattle.std.proofs.lemmas.Int.{ints}
use Rattle.jiff_core.specs.Calendar.{IsBetween}
use Rattle.jiff_core.specs.Timestamp.{IsTimestampNanos}
use Rattle.std.specs.Int.{int_div_euclid, w128}
use Rattle.time_below.specs.Moment.{IsNearTimestampSecond}

-- the nanoseconds as the code holds them
abbrev held_nanoseconds : ℤ → ℕ → ℤ
held_nanoseconds s n =
    to_z w128 (of_z w128 (to_z w128 (of_z w128 (pos 1_000_000_000 *ℤ to_z w128 (of_z w128 (to_z w64 (of_z w64 s))))) +ℤ to_z w128 n))

held_nanoseconds_are : (s : ℤ) (n : ℕ) → IsNearTimestampSecond s → n < 1_000_000_000
    → held_nanoseconds s n ≡ pos 1_000_000_000 *ℤ s +ℤ pos n
held_nanoseconds_are s n h k = omega (arith, ints)

-- the same of a second and a nanosecond that are known by equations
pub nanoseconds_of_parts : (s u : ℤ) (n k : ℕ) → IsNearTimestampSecond s → k < 1_000_000_000 → s ≡ u → n ≡ k
    → held_nanoseconds s n ≡ pos 1_000_000_000 *ℤ u +ℤ pos k
nanoseconds_of_parts s u n k near small second nanosecond =
    held_nanoseconds_are s n near (subst (λ x. x < 1_000_000_000) (sym nanosecond) small) ∙ rw (second, nanosecond) refl

-- a clock that shows the same of one moment has one offset
pub one_offset : (civil n x y : ℤ) → civil ≡ n +ℤ x *ℤ pos 1_000_000_000 → civil ≡ n +ℤ y *ℤ pos 1_000_000_000 → x ≡ y
one_offset civil n x y a b = omega (arith, ints)

-- the second in which a moment of jiff lies, and the nanoseconds from there on as the code holds them
pub parts_of : (n s : ℤ) → IsTimestampNanos n → s ≡ int_div_euclid n (pos 1_000_000_000)
    → IsBetween (neg_ℤ (pos 377_705_023_201)) (pos 253_402_207_200) s
    × ((n -ℤ pos 1_000_000_000 *ℤ s ≡ pos (nat_abs (n -ℤ pos 1_000_000_000 *ℤ s)))
    × (nat_abs (n -ℤ pos 1_000_000_000 *ℤ s) < 1_000_000_000))
parts_of (pos n) s h e = rw e (omega (arith, ints), (omega (arith, ints), omega (arith, ints)))
parts_of (negsuc n) s h e = rw e (omega (arith, ints), (omega (arith, ints), omega (arith, ints)))
