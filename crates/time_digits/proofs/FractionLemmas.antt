-- Decimals without the zeros at their end.
use Rattle.std.proofs.Common.{◌≡◌, ℕ, zero, suc, ◌+◌, ◌-◌, ◌/◌, ◌%◌, ◌≤◌, ◌==◌, true, false, List, [], ◌∷◌, ◌++◌}
use Rattle.std.proofs.Common.{length, take, drop, replicate, refl, sym, ap, ◌∙◌, arith, ⊎_elim, IsAscii, ◌*◌, ◌^◌, ◌<◌}
use Rattle.std.proofs.Common.{ap₂}
use Rattle.std.specs.Str.Parse.{AllDigits}
use Rattle.std.proofs.lemmas.Bool.{cases_Bool, and_parts, eqb-true}
use Rattle.std.proofs.lemmas.Fmt.{IsAscii-from_digits}
use Rattle.std.proofs.lemmas.Grind.{common_steps}
use Rattle.std.proofs.lemmas.List.{append_cancel_right, take_at}
use Rattle.std.proofs.lemmas.Nat.{pow-add, div-mul-add}
use Rattle.std.proofs.Math.Nat.{one-le-pow}
use Rattle.time_digits.specs.Digits.{fixed}
use Rattle.time_digits.specs.Fraction.{are_zeros, without_last_zeros, trimmed, trimmed_fraction, last_zeros}
use Rattle.time_digits.specs.Fraction.{IsTrimmedFraction, IsOnlyTrimmedFraction}
use Rattle.time_digits.proofs.DigitLemmas.{fixed_digits, fixed-one, fixed-append, fixed-mod, fixed-zero}
use Rattle.time_digits.proofs.LengthLemmas.{length-fixed, length-without_last_zeros, last_zeros-le, length-trimmed}
use Rattle.time_digits.proofs.LengthLemmas.{trimmed_some}
pub use Rattle.time_digits.proofs.LengthLemmas.{length-trimmed_fraction}

-- ---- zeros

-- zeros are zeros, and after a text they change nothing about it
are_zeros-replicate : (k : ℕ) → are_zeros (replicate k 48) ≡ true
are_zeros-replicate zero = refl
are_zeros-replicate (suc k) = are_zeros-replicate k

are_zeros-append : (ds : List ℕ) (k : ℕ) → are_zeros (ds ++ replicate k 48) ≡ are_zeros ds
are_zeros-append ds k = grind (arith, common_steps, are_zeros-replicate)

-- a text of zeros is so many zeros
zeros_are : (ds : List ℕ) → are_zeros ds ≡ true → ds ≡ replicate (length ds) 48
zeros_are [] e = refl
zeros_are (d ∷ ds) e =
    let both = and_parts (d == 48) (are_zeros ds) e in
    rw (eqb-true d 48 both.0) (ap (λ bs. 48 ∷ bs) (zeros_are ds both.1))

-- ---- texts without the zeros at their end

-- zeros alone have nothing left without their last zeros
pub zeros_none : (d : ℕ) (ds : List ℕ) → are_zeros (d ∷ ds) ≡ true → without_last_zeros (d ∷ ds) ≡ []
zeros_none d ds e = rw e refl

-- a byte stays that is not followed by zeros alone
pub not_zeros : (d : ℕ) (ds : List ℕ) → are_zeros (d ∷ ds) ≡ false → without_last_zeros (d ∷ ds)
    ≡ d ∷ without_last_zeros ds
not_zeros d ds e = rw e refl

-- zeros without their last zeros are no digits
without_last_zeros-replicate : (k : ℕ) → without_last_zeros (replicate k 48) ≡ []
without_last_zeros-replicate k = grind (arith, common_steps, zeros_none, are_zeros-replicate)

-- more zeros at the end change nothing
without_last_zeros-append : (ds : List ℕ) (k : ℕ) → without_last_zeros (ds ++ replicate k 48) ≡ without_last_zeros ds
without_last_zeros-append [] k = without_last_zeros-replicate k
without_last_zeros-append (d ∷ ds) k = rw (are_zeros-append (d ∷ ds) k, without_last_zeros-append ds k) refl

-- a text without its last zeros, filled with zeros again, is the text
zeros_filled_again : (ds : List ℕ) → without_last_zeros ds ++ replicate (length ds - length (without_last_zeros ds)) 48 ≡ ds
zeros_filled_again [] = refl
zeros_filled_again (d ∷ ds) =
    ⊎_elim (λ (e : are_zeros (d ∷ ds) ≡ true).
    let all : suc (length ds) - 0 ≡ suc (length ds) = omega arith in
    rw (zeros_none d ds e, all) (sym (zeros_are (d ∷ ds) e)))
    (λ (e : are_zeros (d ∷ ds) ≡ false).
    let count : suc (length ds) - suc (length (without_last_zeros ds)) ≡ length ds - length (without_last_zeros ds) =
    omega arith in
    rw (not_zeros d ds e, count) (ap (λ bs. d ∷ bs) (zeros_filled_again ds)))
    (cases_Bool (are_zeros (d ∷ ds)))

-- the front of a text of digits is one
digits_front : (ds rest : List ℕ) → AllDigits 10 (ds ++ rest) → AllDigits 10 ds
digits_front [] rest h = tt
digits_front (d ∷ ds) rest h = (h.0, digits_front ds rest h.1)

-- ---- texts that keep their first digit, without the zeros at their end

-- more zeros at the end change nothing
trimmed-append : (ds : List ℕ) (k : ℕ) → 1 ≤ length ds → trimmed (ds ++ replicate k 48) ≡ trimmed ds
trimmed-append ds k h = grind (arith, common_steps, without_last_zeros-append)

-- a trimmed text, filled with zeros again, is the text
trimmed_filled : (ds : List ℕ) → trimmed ds ++ replicate (length ds - length (trimmed ds)) 48 ≡ ds
trimmed_filled [] = refl
trimmed_filled (d ∷ ds) =
    let count : suc (length ds) - suc (length (without_last_zeros ds)) ≡ length ds - length (without_last_zeros ds) =
    omega arith in
    rw count (ap (λ bs. d ∷ bs) (zeros_filled_again ds))

-- ---- the trimmed fraction of a number

-- the trimmed fraction is the shortest text that is the fraction
pub trimmed_fraction_is : (n : ℕ) → IsTrimmedFraction (trimmed_fraction n) n
unfolding trimmed_fraction
trimmed_fraction_is n =
    let ds = fixed 9 n in
    let nine = length-fixed 9 n in
    let fill : trimmed ds ++ replicate (9 - length (trimmed ds)) 48 ≡ ds = rw nine at (trimmed_filled ds) in
    let digits : AllDigits 10 (trimmed ds ++ replicate (9 - length (trimmed ds)) 48) = rw fill (fixed_digits 9 n) in
    record {
      fraction = record {
        digits = digits_front (trimmed ds) _ digits;
        some = trimmed_some ds (omega arith);
        most =
            omega (arith, length-trimmed ds);
        filled = fill;
      };
      shortest = λ other h.
          let same : trimmed ds ≡ trimmed other = rw h.filled at (trimmed-append other (9 - length other) h.some) in
          omega (arith, ap length same, length-trimmed other);
    }

-- there is one shortest text, since two are as long and filled alike
same_fraction : (n : ℕ) (text other : List ℕ) → IsTrimmedFraction text n → IsTrimmedFraction other n → text ≡ other
same_fraction n text other s t = grind (arith, append_cancel_right)

-- the trimmed fraction is the shortest text, and no other is
pub only_trimmed_fraction : (n : ℕ) → IsOnlyTrimmedFraction n
only_trimmed_fraction n = grind (arith, trimmed_fraction_is, same_fraction)

-- the bytes of a trimmed fraction are digits, so ASCII
pub IsAscii-trimmed_fraction : (n : ℕ) → IsAscii (trimmed_fraction n)
IsAscii-trimmed_fraction n = IsAscii-from_digits (trimmed_fraction n) (trimmed_fraction_is n).fraction.digits

-- ---- the zeros dropped all at once

-- a text without its last zeros is as many bytes shorter as there are
without_last_zeros-take : (ds : List ℕ) → without_last_zeros ds ≡ take (length ds - last_zeros ds) ds
unfolding last_zeros
without_last_zeros-take ds =
    let kept = without_last_zeros ds in
    let count : length ds - (length ds - length kept) ≡ length kept = omega (arith, length-without_last_zeros ds) in
    rw count (sym (rw zeros_filled_again at (take_at kept (replicate (length ds - length kept) 48) (length kept) refl)))

-- a trimmed text, by the zeros that end it after its first byte
trimmed-take : (d : ℕ) (ds : List ℕ) → trimmed (d ∷ ds) ≡ take (suc (length ds) - last_zeros ds) (d ∷ ds)
trimmed-take d ds = grind (arith, last_zeros-le, without_last_zeros-take)

-- nine digits are one and eight
fixed-nine : (n : ℕ) → fixed 9 n ≡ (48 + n / 100_000_000 % 10) ∷ fixed 8 n
fixed-nine n = fixed-append 1 8 n ∙ ap (λ bs. bs ++ fixed 8 n) (fixed-one (n / 100_000_000))

-- the last eight of nine digits
pub last_of_nine : (n : ℕ) (bs : List ℕ) → bs ≡ fixed 9 n → drop (length bs - 8) bs ≡ fixed 8 n
last_of_nine n bs digits = grind (arith, length-fixed, fixed-nine)

-- the trimmed fraction is the nine digits without the zeros that end the last eight
pub trimmed_fraction-take : (n : ℕ) → trimmed_fraction n ≡ take (9 - last_zeros (fixed 8 n)) (fixed 9 n)
unfolding trimmed_fraction
trimmed_fraction-take n = grind (arith, common_steps, fixed-nine, length-fixed, trimmed-take)

-- ---- more than nine places

-- a multiple is divided without a remainder
multiple_divided : (n p : ℕ) → 0 < p → (n * p / p ≡ n) × (n * p % p ≡ 0)
multiple_divided n p h = grind (arith, div-mul-add)

-- the places beyond the ninth are zeros, for a number over 10 ^ 9
pub nine_places : (n d : ℕ) → 9 ≤ d → fixed d (n * 10 ^ d / 1_000_000_000) ≡ fixed 9 n ++ replicate (d - 9) 48
nine_places n d h =
    let k = d - 9 in
    let p = 10 ^ k in
    let all : 9 + k ≡ d = omega arith in
    let power : 10 ^ d ≡ 1_000_000_000 * p = rw all at (pow-add 10 9 k) in
    let some : 0 < p = one-le-pow k 10 (omega arith) in
    let m = multiple_divided n p some in
    let product : n * 10 ^ d ≡ 1_000_000_000 * (n * p) = rw power (grind arith) in
    let quotient : n * 10 ^ d / 1_000_000_000 ≡ n * p = omega (arith, product) in
    let split : fixed d (n * p) ≡ fixed 9 (n * p / p) ++ fixed k (n * p) = rw all at (fixed-append 9 k (n * p)) in
    let last : fixed k (n * p) ≡ replicate k 48 = sym (fixed-mod k (n * p)) ∙ ap (fixed k) m.1 ∙ fixed-zero k in
    ap (fixed d) quotient ∙ split ∙ ap₂ (λ i t. fixed 9 i ++ t) m.0 last
