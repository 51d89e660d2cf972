-- A fraction whose last digits are zeros from some place on, and no zero before them.
use Rattle.std.proofs.Common.{◌≡◌, ◌≢◌, ℕ, suc, ◌+◌, ◌-◌, ◌/◌, ◌%◌, ◌^◌, ◌<◌, ◌≤◌, List, ◌++◌, ⊎_elim, length, take}
use Rattle.std.proofs.Common.{get_or, replicate, sym, ap, ◌∙◌, arith}
use Rattle.std.proofs.lemmas.Bool.{cases_lt}
use Rattle.std.proofs.lemmas.List.{get_or_append_left, get_or-append_right, get_or-replicate}
use Rattle.std.proofs.Math.Seq.{get_or-append_seam}
use Rattle.time_digits.specs.Digits.{fixed}
use Rattle.time_digits.specs.Fraction.{trimmed_fraction}
use Rattle.time_digits.proofs.DigitLemmas.{fixed_step, fixed_digits, fixed-append, fixed-mod, fixed-zero}
use Rattle.time_digits.proofs.FractionLemmas.{only_trimmed_fraction, length-trimmed_fraction}
use Rattle.time_digits.proofs.LengthLemmas.{length-fixed}
use Rattle.time_fmt.proofs.EndLemmas.{whole_text}
use Rattle.time_fmt.proofs.DecimalLemmas.{take-fixed, length-first, length-subsecond_text, nine_decimals}

-- nine digits are the first ones, and zeros
filled_at : (j k n : ℕ) → j + k ≡ 9 → n % 10 ^ k ≡ 0 → fixed j (n / 10 ^ k) ++ replicate k 48 ≡ fixed 9 n
filled_at j k n nine zeros =
    let last : fixed k n ≡ replicate k 48 = sym (fixed-mod k n) ∙ ap (fixed k) zeros ∙ fixed-zero k in
    ap (λ ds. fixed j (n / 10 ^ k) ++ ds) (sym last) ∙ sym (rw nine at (fixed-append j k n))

-- the last of these first digits
last_digit : (i m : ℕ) (ds : List ℕ) → get_or (fixed (suc i) m ++ ds) i 0 ≡ 48 + m % 10
last_digit i m ds = grind (arith, get_or-append_seam, get_or_append_left, length-fixed, fixed_step)

-- a shorter text has a zero in its place
zero_behind : (text : List ℕ) (i : ℕ) → length text ≤ i → i < 9
    → get_or (text ++ replicate (9 - length text) 48) i 0 ≡ 48
zero_behind text i le lt = grind (arith, get_or-append_right, get_or-replicate)

-- the trimmed fraction is its digits up to the last one that is no zero
pub trimmed_at : (i k n : ℕ) → suc i + k ≡ 9 → n % 10 ^ k ≡ 0 → n / 10 ^ k % 10 ≢ 0
    → fixed (suc i) (n / 10 ^ k) ≡ trimmed_fraction n
trimmed_at i k n nine zeros some =
    let size = length-fixed (suc i) (n / 10 ^ k) in
    let full = filled_at (suc i) k n nine zeros in
    let left : 9 - length (fixed (suc i) (n / 10 ^ k)) ≡ k = omega (arith, size) in
    (only_trimmed_fraction n).1 (fixed (suc i) (n / 10 ^ k)) (record {
      fraction = record {
        digits = fixed_digits (suc i) (n / 10 ^ k);
        some = omega (arith, size);
        most = omega (arith, size);
        filled = rw left full;
      };
      shortest = λ other h.
          ⊎_elim
          (λ shorter.
          let one = last_digit i (n / 10 ^ k) (replicate k 48) in
          let none = zero_behind other i (omega (arith, size, shorter)) (omega arith) in
          let same : 48 + n / 10 ^ k % 10 ≡ 48 = sym one ∙ ap (λ ds. get_or ds i 0) (full ∙ sym h.filled) ∙ none in
          absurd (some (omega arith)))
          (λ enough. enough)
          (cases_lt (length other) (length (fixed (suc i) (n / 10 ^ k))));
    })

-- nine digits, the first three and the first six, where the last of them is no zero
pub nine_are : (n : ℕ) → n % 10 ≢ 0 → fixed 9 n ≡ trimmed_fraction n
nine_are n some =
    let whole : n ≡ n / 10 ^ 0 = omega arith in
    ap (fixed 9) whole ∙ trimmed_at 8 0 n (omega arith) (omega arith) (λ e. some (omega (arith, e)))

pub three_are : (n : ℕ) → n % 1_000_000 ≡ 0 → n / 1_000_000 % 10 ≢ 0 → take 3 (fixed 9 n) ≡ trimmed_fraction n
three_are n zeros some = take-fixed 3 6 n ∙ trimmed_at 2 6 n (omega arith) zeros some

pub six_are : (n : ℕ) → n % 1_000 ≡ 0 → n / 1_000 % 10 ≢ 0 → take 6 (fixed 9 n) ≡ trimmed_fraction n
six_are n zeros some = take-fixed 6 3 n ∙ trimmed_at 5 3 n (omega arith) zeros some

-- the length of the trimmed fraction
pub length-nine : (n : ℕ) → n % 10 ≢ 0 → length (trimmed_fraction n) ≡ 9
length-nine n some = ap length (sym (nine_are n some)) ∙ length-fixed 9 n

pub length-three : (n : ℕ) → n % 1_000_000 ≡ 0 → n / 1_000_000 % 10 ≢ 0 → length (trimmed_fraction n) ≡ 3
length-three n zeros some = ap length (sym (three_are n zeros some)) ∙ length-first 3 6 n

pub length-six : (n : ℕ) → n % 1_000 ≡ 0 → n / 1_000 % 10 ≢ 0 → length (trimmed_fraction n) ≡ 6
length-six n zeros some = ap length (sym (six_are n zeros some)) ∙ length-first 6 3 n

-- a fraction that ends after the ninth, the third or the sixth digit
pub ruleset whole_fractions = (nine_are, three_are, six_are, length-nine, length-three, length-six)

-- the first three of nine digits
pub length-three_decimals : (n : ℕ) → length (take 3 (fixed 9 n)) ≡ 3
length-three_decimals n = length-first 3 6 n

-- three decimals, or nine of which the last is no zero
pub ruleset usual_decimals = (nine_are, nine_decimals, length-nine, length-fixed, length-three_decimals)

-- how many decimals a component has
pub ruleset subsecond_lengths = (length-subsecond_text, length-trimmed_fraction, whole_text)
