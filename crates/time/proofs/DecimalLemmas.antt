-- The decimals of a second, one after another, are its nine digits without the zeros at their end.
use Rattle.std.proofs.Common.{◌≡◌, ℕ, zero, suc, ◌+◌, ◌*◌, ◌/◌, ◌%◌, ◌^◌, ◌<◌, ◌==◌, true, false, List, [], ◌∷◌, ◌++◌}
use Rattle.std.proofs.Common.{length, replicate, decimal, if◌then◌else◌, refl, sym, ap, ◌∙◌, ⊎_elim, arith}
use Rattle.std.specs.Str.Parse.{digits_value}
use Rattle.std.proofs.lemmas.Bool.{cases_Bool, and_parts, eqb-true}
use Rattle.std.proofs.lemmas.Grind.{common_steps}
use Rattle.std.proofs.Math.Nat.{one-le-pow, pow-suc, div-lt_iff_lt-mul}
use Rattle.time_below.specs.Text.{decimals}
use Rattle.time_digits.specs.Digits.{fixed}
use Rattle.time_digits.specs.Fraction.{are_zeros, without_last_zeros, trimmed, trimmed_fraction}
use Rattle.time_digits.proofs.DigitLemmas.{fixed-append, fixed-mod, fixed-one, fixed-zero, length-fixed, decimal_one}
use Rattle.time_digits.proofs.FractionLemmas.{zeros_none, not_zeros}
use Rattle.time_digits.proofs.ValueLemmas.{fixed_value}

-- digits that are all zero are those of zero
zeros_are : (ds : List ℕ) → are_zeros ds ≡ true → ds ≡ replicate (length ds) 48
zeros_are [] e = refl
zeros_are (d ∷ ds) e =
    let both = and_parts (d == 48) (are_zeros ds) e in
    rw (eqb-true d 48 both.0) (ap (λ bs. 48 ∷ bs) (zeros_are ds both.1))

zero_of_zeros : (k n : ℕ) → n < 10 ^ k → are_zeros (fixed k n) ≡ true → n ≡ 0
zero_of_zeros k n h e =
    let some : 0 < 10 ^ k = one-le-pow k 10 (omega arith) in
    let zeros : fixed k n ≡ replicate k 48 = rw (length-fixed k n) at (zeros_are (fixed k n) e) in
    sym (fixed_value k n h) ∙ ap (digits_value 10) (zeros ∙ sym (fixed-zero k)) ∙ fixed_value k 0 some

not_all_zeros : (k n : ℕ) → n < 10 ^ k → (n == 0) ≡ false → are_zeros (fixed k n) ≡ false
not_all_zeros k n h e = ⊎_elim
    (λ (z : are_zeros (fixed k n) ≡ true). let none : n ≡ 0 = zero_of_zeros k n h z in grind (arith, common_steps))
    (λ (z : are_zeros (fixed k n) ≡ false). z)
    (cases_Bool (are_zeros (fixed k n)))

-- zeros have nothing left without their last zeros
zeros_left : (k : ℕ) → (are_zeros (replicate k 48) ≡ true) × (without_last_zeros (replicate k 48) ≡ [])
zeros_left zero = (refl, refl)
zeros_left (suc k) =
    let zeros : are_zeros (replicate k 48) ≡ true = (zeros_left k).0 in
    (zeros, zeros_none 48 (replicate k 48) zeros)

-- digits that are not all zero keep their first
some_left : (ds : List ℕ) → are_zeros ds ≡ false → without_last_zeros ds ≡ trimmed ds
some_left [] e = refl
some_left (d ∷ ds) e = not_zeros d ds e

-- what is left of the digits after the first
abbrev IsLeft : ℕ → ℕ → Type 0
IsLeft k n = without_last_zeros (fixed k n) ≡ (if n == 0 then [] else decimals k n)

-- the first digit, and what is left of the others
first_and_left : (k n : ℕ) → n < 10 ^ suc k → IsLeft k (n % 10 ^ k) → trimmed (fixed (suc k) n) ≡ decimals (suc k) n
unfolding decimals
first_and_left k n h left =
    let power : 10 ^ suc k ≡ 10 ^ k * 10 = pow-suc 10 k in
    let some : 0 < 10 ^ k = one-le-pow k 10 (omega arith) in
    let digit : n / 10 ^ k < 10 = (div-lt_iff_lt-mul some).1 (omega arith) in
    let one : decimal (n / 10 ^ k) ≡ (48 + n / 10 ^ k % 10) ∷ [] = decimal_one (n / 10 ^ k) digit ∙ fixed-one (n / 10 ^ k) in
    let count : 1 + k ≡ suc k = omega arith in
    let parts : fixed (suc k) n ≡ fixed 1 (n / 10 ^ k) ++ fixed k n = rw count at (fixed-append 1 k n) in
    let digits : fixed (suc k) n ≡ (48 + n / 10 ^ k % 10) ∷ fixed k n = parts ∙ ap (λ ds. ds ++ fixed k n) (fixed-one (n / 10 ^ k)) in
    let rest : without_last_zeros (fixed k n) ≡ (if n % 10 ^ k == 0 then [] else decimals k (n % 10 ^ k)) =
    ap without_last_zeros (sym (fixed-mod k n)) ∙ left in
    rw (digits, one, rest) refl

is_left : (k n : ℕ) → n < 10 ^ k → IsLeft k n
unfolding decimals fixed
is_left zero n h = grind (arith, common_steps)
is_left (suc k) n h =
    let some : 0 < 10 ^ k = one-le-pow k 10 (omega arith) in
    ⊎_elim
    (λ (e : (n == 0) ≡ true).
    let none : n ≡ 0 = eqb-true n 0 e in
    rw e (ap (λ m. without_last_zeros (fixed (suc k) m)) none ∙ ap without_last_zeros (fixed-zero (suc k))
    ∙ (zeros_left (suc k)).1))
    (λ (e : (n == 0) ≡ false).
    rw e (some_left (fixed (suc k) n) (not_all_zeros (suc k) n h e)
    ∙ first_and_left k n h (is_left k (n % 10 ^ k) (omega arith))))
    (cases_Bool (n == 0))

-- nine decimals of a fraction of a second
pub fraction_is_decimals : (n : ℕ) → n < 1_000_000_000 → trimmed_fraction n ≡ decimals 9 n
unfolding trimmed_fraction
fraction_is_decimals n h =
    let some : 0 < 10 ^ 8 = omega arith in
    first_and_left 8 n h (is_left 8 (n % 10 ^ 8) (omega arith))
