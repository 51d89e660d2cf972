-- Words of eight digits, and the zeros that end them.
use Rattle.std.proofs.Common.{◌≡◌, ℕ, zero, suc, ◌+◌, ◌-◌, ◌*◌, ◌/◌, ◌^◌, ◌<◌, ◌≤◌, ◌≢◌, ◌==◌, List, [], ◌∷◌, length}
use Rattle.std.proofs.Common.{drop, take, subst, get_or, refl, sym, ap, ◌∙◌, arith, true, false, ⊎_elim, w64}
use Rattle.std.specs.Int.{to_le_bytes, from_le_bytes, leading_zeros, IsInRange}
use Rattle.std.specs.Int.Bits.{bit_xor}
use Rattle.std.specs.Str.Parse.{AllDigits}
use Rattle.std.proofs.Math.Nat.{pow-suc, pow-le-pow_right}
use Rattle.std.proofs.lemmas.Bool.{cases_Bool, cases_lt, and_parts, eqb-true}
use Rattle.std.proofs.lemmas.Nat.{pow-add, xor_block, leading_length, from_le_bytes-to_le_bytes_8, le_bytes_8}
use Rattle.std.proofs.lemmas.Str.Parse.{digit_from_value}
use Rattle.time_digits.specs.Digits.{fixed}
use Rattle.time_digits.specs.Fraction.{are_zeros, without_last_zeros, last_zeros, trimmed_fraction}
use Rattle.time_digits.proofs.DigitLemmas.{IsAscii-fixed, fixed_digits}
use Rattle.time_digits.proofs.FractionLemmas.{zeros_none, not_zeros, last_of_nine, trimmed_fraction-take}
use Rattle.time_digits.proofs.LengthLemmas.{length-fixed, length-without_last_zeros, last_zeros-le}
use Rattle.std.proofs.lemmas.Grind.{common_steps}

-- the word that bytes spell, the lowest one first
abbrev word_of : List ℕ → ℕ
word_of [] = 0
word_of (b ∷ bs) = word_of bs * 256 + b

-- the word of k zeros
abbrev zeros_word : ℕ → ℕ
zeros_word zero = 0
zeros_word (suc k) = zeros_word k * 256 + 48

-- the word of the digits' values
abbrev values_word : List ℕ → ℕ
values_word [] = 0
values_word (d ∷ ds) = values_word ds * 256 + (d - 48)

-- the exclusive or of a digit with the digit 0 is its value
xor_digit : (d : ℕ) → IsInRange 48 57 d → bit_xor d 48 ≡ d - 48
xor_digit d h = grind (arith, common_steps, xor_block)

-- the exclusive or of a word of digits with as many zeros is the word of their values
xor_digits : (ds : List ℕ) → AllDigits 10 ds → bit_xor (word_of ds) (zeros_word (length ds)) ≡ values_word ds
xor_digits [] h = refl
xor_digits (d ∷ ds) h =
    let here = digit_from_value d h.0 in
    let both : bit_xor (word_of ds * 2 ^ 8 + d) (zeros_word (length ds) * 2 ^ 8 + 48)
    ≡ bit_xor (word_of ds) (zeros_word (length ds)) * 2 ^ 8 + bit_xor d 48 =
    xor_block 8 (word_of ds) (zeros_word (length ds)) d 48 (omega arith) (omega arith) in
    rw (xor_digits ds h.1, xor_digit d here) at both

-- a byte more is 256 times as much
pow-byte : (m : ℕ) → 2 ^ (8 * suc m) ≡ 256 * 2 ^ (8 * m)
pow-byte m = let e : 8 * suc m ≡ 8 + 8 * m = omega arith in rw e (pow-add 2 8 (8 * m))

-- zeros have the word 0
values_zero : (ds : List ℕ) → are_zeros ds ≡ true → values_word ds ≡ 0
values_zero [] e = refl
values_zero (d ∷ ds) e =
    let both = and_parts (d == 48) (are_zeros ds) e in
    let first : d ≡ 48 = eqb-true d 48 both.0 in
    omega (arith, first, values_zero ds both.1)

-- digits that are not all zeros make a word of at least one
values_some : (ds : List ℕ) → AllDigits 10 ds → are_zeros ds ≡ false → 1 ≤ values_word ds
values_some [] h e = cc
values_some (d ∷ ds) h e =
    let here = digit_from_value d h.0 in
    ⊎_elim (λ (zero_first : (d == 48) ≡ true).
    let rest : are_zeros ds ≡ false = rw zero_first at e in
    omega (arith, values_some ds h.1 rest))
    (λ (other : (d == 48) ≡ false).
    let apart : d ≢ 48 = λ (same : d ≡ 48). let alike : (48 == 48) ≡ false = rw same at other in cc in
    omega (arith, here, apart))
    (cases_Bool (d == 48))

-- the values fill no more bytes than there are digits before the last zeros
values_below : (ds : List ℕ) → AllDigits 10 ds → values_word ds < 2 ^ (8 * length (without_last_zeros ds))
values_below [] h = omega arith
values_below (d ∷ ds) h =
    let here = digit_from_value d h.0 in
    ⊎_elim (λ (e : are_zeros (d ∷ ds) ≡ true). rw (zeros_none d ds e) (omega (arith, values_zero (d ∷ ds) e)))
    (λ (e : are_zeros (d ∷ ds) ≡ false).
    rw (not_zeros d ds e) (omega (arith, here, values_below ds h.1, pow-byte (length (without_last_zeros ds)))))
    (cases_Bool (are_zeros (d ∷ ds)))

-- a word has at least as many bytes as its digits without the last zeros
values_above : (ds : List ℕ) (m : ℕ) → AllDigits 10 ds → length (without_last_zeros ds) ≡ suc m
    → 2 ^ (8 * m) ≤ values_word ds
values_above [] m h e = cc
values_above (d ∷ ds) zero h e = grind (arith, zeros_none, values_some, cases_Bool)
values_above (d ∷ ds) (suc m) h e =
    ⊎_elim (λ (all : are_zeros (d ∷ ds) ≡ true). absurd (omega (arith, rw (zeros_none d ds all) at e)))
    (λ (some : are_zeros (d ∷ ds) ≡ false).
    let rest : length (without_last_zeros ds) ≡ suc m = omega (arith, rw (not_zeros d ds some) at e) in
    omega (arith, values_above ds m h.1 rest, pow-byte m))
    (cases_Bool (are_zeros (d ∷ ds)))

-- a number that fills m of k bytes, and not one fewer, has its leading zero bits in the others
zero_bytes : (x m k leading bits : ℕ) → leading + bits ≡ 8 * k → m ≤ k → x < 2 ^ bits → 2 ^ bits ≤ 2 * x + 1
    → x < 2 ^ (8 * m) → ((j : ℕ) → m ≡ suc j → 2 ^ (8 * j) ≤ x) → leading / 8 ≡ k - m
zero_bytes x m k leading bits count within long short below above =
    let upper : bits ≤ 8 * m =
    ⊎_elim (λ (h : 8 * m < bits).
    let more : 2 ^ suc (8 * m) ≤ 2 ^ bits = pow-le-pow_right {n = 2} (omega arith) {i = suc (8 * m)} {j = bits}
    (omega arith) in
    absurd (omega (arith, more, pow-suc 2 (8 * m))))
    (λ (h : bits ≤ 8 * m). h)
    (cases_lt (8 * m) bits) in
    omega (arith, upper, lower m above)
  where
    lower : (n : ℕ) → ((j : ℕ) → n ≡ suc j → 2 ^ (8 * j) ≤ x) → 8 * n < bits + 8
    lower zero h = omega arith
    lower (suc j) h =
        ⊎_elim (λ (l : 8 * j < bits). omega arith)
        (λ (l : bits ≤ 8 * j).
        let fewer : 2 ^ bits ≤ 2 ^ (8 * j) = pow-le-pow_right {n = 2} (omega arith) {i = bits} {j = 8 * j} l in
        absurd (omega (arith, fewer, h j refl)))
        (cases_lt (8 * j) bits)

-- the exclusive or of eight digits with eight zeros begins with a zero byte for each of the last zeros
leading_zeros-values : (ds : List ℕ) → length ds ≡ 8 → AllDigits 10 ds → leading_zeros w64 (values_word ds) / 8
    ≡ last_zeros ds
unfolding last_zeros
leading_zeros-values ds eight h =
    let m = length (without_last_zeros ds) in
    let within : m ≤ 8 = omega (arith, length-without_last_zeros ds) in
    let below : values_word ds < 2 ^ (8 * m) = values_below ds h in
    let most : 2 ^ (8 * m) ≤ 2 ^ 64 = pow-le-pow_right {n = 2} (omega arith) {i = 8 * m} {j = 64} (omega arith) in
    let found = leading_length 64 (values_word ds) (omega (arith, below, most)) in
    rw eight (zero_bytes (values_word ds) m 8 (leading_zeros w64 (values_word ds)) found.0 found.1 within found.2
    found.3 below (λ j e. values_above ds j h e))

-- the word is what its bytes spell
word_of-to_le_bytes : (word : ℕ) → word < 2 ^ 64 → word_of (to_le_bytes w64 word) ≡ word
word_of-to_le_bytes word fits = omega (arith, from_le_bytes-to_le_bytes_8 word fits)

-- the exclusive or with eight zeros shows how many of them end eight digits
pub last_zeros_by_word : (word : ℕ) → word < 2 ^ 64 → AllDigits 10 (to_le_bytes w64 word)
    → leading_zeros w64 (bit_xor word 0x3030_3030_3030_3030) / 8 ≡ last_zeros (to_le_bytes w64 word)
last_zeros_by_word word fits h =
    let ds = to_le_bytes w64 word in
    let x : bit_xor word 0x3030_3030_3030_3030 ≡ values_word ds = rw (word_of-to_le_bytes word fits) at
    (xor_digits ds h) in
    rw x (leading_zeros-values ds refl h)

-- lemmas for the call that counts the last zeros
pub ruleset word_facts = (last_zeros_by_word, last_zeros-le)

-- ---- a word that was read from eight digits of a number

-- the bytes of a word that was read from eight digits are these digits
pub digits_of_word : (bs : List ℕ) (n word : ℕ) → bs ≡ fixed 8 n → word ≡ from_le_bytes w64 bs → to_le_bytes w64 word
    ≡ fixed 8 n
digits_of_word bs n word digits read =
    let below : (i : ℕ) → get_or bs i 0 < 256 = λ i. omega (arith, rw (sym digits) at (IsAscii-fixed 8 n i)) in
    le_bytes_8 bs word (ap length digits ∙ length-fixed 8 n) below read ∙ digits

-- ---- the nine digits of a number of nanoseconds, of whose last eight a word was made

-- the bytes of the word are the last eight digits
pub last_eight : (n : ℕ) (digits eight : List ℕ) (word : ℕ) → digits ≡ fixed 9 n → eight ≡ drop (length digits - 8) digits
    → word ≡ from_le_bytes w64 eight → to_le_bytes w64 word ≡ fixed 8 n
last_eight n digits eight word nine last read = digits_of_word eight n word (last ∙ last_of_nine n digits nine) read

-- so they are digits
pub last_eight_digits : (n : ℕ) (digits eight : List ℕ) (word : ℕ) → digits ≡ fixed 9 n → eight ≡ drop (length digits - 8) digits
    → word ≡ from_le_bytes w64 eight → AllDigits 10 (to_le_bytes w64 word)
last_eight_digits n digits eight word nine last read =
    subst (AllDigits 10) (sym (last_eight n digits eight word nine last read)) (fixed_digits 8 n)

-- the digits without the zeros that the word tells are the trimmed fraction
pub kept_digits : (n : ℕ) (digits eight : List ℕ) (word dropped : ℕ) → digits ≡ fixed 9 n → eight ≡ drop (length digits - 8) digits
    → word ≡ from_le_bytes w64 eight → dropped ≡ last_zeros (to_le_bytes w64 word)
    → take (9 - dropped) digits ≡ trimmed_fraction n
kept_digits n digits eight word dropped nine last read zeros =
    rw (nine, zeros, last_eight n digits eight word nine last read) (sym (trimmed_fraction-take n))
