-- The decimal values of digits.
use Rattle.std.proofs.Common.{◌≡◌, ℕ, zero, suc, ◌+◌, ◌*◌, ◌/◌, ◌%◌, ◌^◌, ◌<◌, ◌≤◌, List, [], ◌∷◌, ◌++◌, length, take}
use Rattle.std.proofs.Common.{get_or, refl, sym, ap, ◌∙◌, arith}
use Rattle.std.specs.Str.Parse.{AllDigits, digits_value}
use Rattle.std.specs.Char.{digit_value}
use Rattle.std.proofs.lemmas.Str.{digit_value_digit}
use Rattle.std.proofs.lemmas.Str.Parse.{digit_at}
use Rattle.std.proofs.lemmas.Int.Digits.{digits_value_push, digits_value_more}
use Rattle.std.proofs.lemmas.List.{take_more}
use Rattle.std.proofs.Math.Nat.{pow-suc}
use Rattle.time_digits.specs.Digits.{fixed}
use Rattle.time_digits.proofs.DigitLemmas.{fixed_step}

-- ten times a value and a digit have one fixed digit more
one_more_digit : (k v d : ℕ) (front : List ℕ) → d < 10 → fixed k v ≡ front
    → fixed (suc k) (v * 10 + d) ≡ front ++ (48 + d) ∷ []
one_more_digit k v d front h e = grind (arith, fixed_step)

-- the first k digits are those of their value
pub fixed_take : (k : ℕ) (text : List ℕ) → k ≤ length text → AllDigits 10 text
    → fixed k (digits_value 10 (take k text)) ≡ take k text
unfolding fixed
fixed_take zero text h each = refl
fixed_take (suc k) text h each =
    let b = get_or text k 0 in
    let range = digit_at text k each h in
    let value = digit_value_digit b range in
    let more = digits_value_more 10 text k h in
    let longer = take_more text k 0 h in
    let one : k + 1 ≡ suc k = omega arith in
    let last : 48 + digit_value b ≡ b = omega arith in
    let pushed = one_more_digit k (digits_value 10 (take k text)) (digit_value b) (take k text) (omega arith)
    (fixed_take k text (omega arith) each) in
    rw one at (ap (fixed (suc k)) more ∙ pushed ∙ ap (λ c. take k text ++ c ∷ []) last ∙ sym longer)

-- the digits of n, of which there are enough, have the value n
pub fixed_value : (k n : ℕ) → n < 10 ^ k → digits_value 10 (fixed k n) ≡ n
unfolding fixed
fixed_value zero n h = omega arith
fixed_value (suc k) n h =
    let p : 10 ^ suc k ≡ 10 ^ k * 10 = pow-suc 10 k in
    let v = digit_value_digit (48 + n % 10) (omega arith, omega arith) in
    omega (arith, digits_value_push 10 (fixed k (n / 10)) (48 + n % 10), fixed_value k (n / 10) (omega arith))
