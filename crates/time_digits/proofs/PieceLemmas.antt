-- Texts in pieces: what precedes the last digits, and then these.
use Rattle.std.proofs.Common.{◌≡◌, ℕ, suc, ◌+◌, ◌-◌, ◌/◌, ◌%◌, ◌^◌, ◌<◌, ◌≤◌, List, [], ◌∷◌, ◌++◌, length, sym}
use Rattle.std.proofs.Common.{ap₂, ◌∙◌, arith, append_assoc, get_or, decimal}
use Rattle.std.proofs.Math.Nat.{one-le-pow, div-le_self}
use Rattle.std.proofs.lemmas.List.{append-nil}
use Rattle.std.specs.Borrow.{Bor}
use Rattle.time_digits.specs.Digits.{fixed, padded, zero_padded, space_padded}
use Rattle.time_digits.specs.Pieces.{joined, piece_lengths}
use Rattle.time_digits.proofs.DigitLemmas.{fixed-append, fixed-mod, decimal-split, padded_whole, padded_short}
use Rattle.time_digits.proofs.DigitLemmas.{padded-split, zero_padded_is}
use Rattle.time_digits.proofs.LengthLemmas.{some_digit, length-fixed, length-digit, decimal_longer, length-decimal_two}
use Rattle.time_digits.proofs.LengthLemmas.{length-decimal_three, length-decimal_four, length-three_whole}
use Rattle.time_digits.proofs.LengthLemmas.{length-four_whole, length-before_four, length-before_none, length-padded}
use Rattle.std.proofs.lemmas.Grind.{common_steps}

-- the last k places of n, with zeros
last_zero_padded : (k n : ℕ) → n < 2 ^ 64 → zero_padded (suc k) (n % 10 ^ suc k) ≡ fixed (suc k) n
last_zero_padded k n h = grind (arith, one-le-pow, zero_padded_is, fixed-mod)

-- n in j + k + 1 places is its quotient in j places and the last ones, from 10 ^ (k + 1) on
split_pieces : (fill j k n : ℕ) → 10 ^ suc k ≤ n → n < 2 ^ 64 → padded fill j (n / 10 ^ suc k)
    ++ zero_padded (suc k) (n % 10 ^ suc k) ≡ padded fill (j + suc k) n
split_pieces fill j k n low h = grind (arith, last_zero_padded, padded-split)

-- n with zeros is its quotient with zeros and the last places, for each n that fits
zero_pieces : (j k n : ℕ) → n / 10 ^ suc k < 10 ^ suc j → n < 10 ^ suc (j + suc k) → n < 2 ^ 64
    → zero_padded (suc j) (n / 10 ^ suc k) ++ zero_padded (suc k) (n % 10 ^ suc k) ≡ zero_padded (suc (j + suc k)) n
zero_pieces j k n below whole h =
    let one = one-le-pow (suc k) 10 (omega arith) in
    let small : n / 10 ^ suc k < 2 ^ 64 = omega (arith, div-le_self n (10 ^ suc k)) in
    let e : suc j + suc k ≡ suc (j + suc k) = omega arith in
    ap₂ (λ xs ys. xs ++ ys) (zero_padded_is j (n / 10 ^ suc k) below small) (last_zero_padded k n h)
    ∙ sym (rw e at (fixed-append (suc j) (suc k) n)) ∙ sym (zero_padded_is (j + suc k) n whole h)

-- a digit is its own text in one place
one_place : (fill n : ℕ) → n < 10 → padded fill 1 n ≡ decimal n
one_place fill n h = padded_whole fill 1 n (omega (arith, length-digit n h))

-- two pieces end in no third
two_pieces_only : (xs ys zs : List ℕ) → xs ++ ys ≡ zs → xs ++ (ys ++ []) ≡ zs
two_pieces_only xs ys zs e = rw append-nil e

-- ---- three places

-- a number below 1,000 with zeros: its first digit, and the last two
pub three_zero_padded : (n : ℕ) → n < 1000 → decimal (n / 100) ++ (zero_padded 2 (n % 100) ++ []) ≡ zero_padded 3 n
three_zero_padded n h =
    two_pieces_only _ _ _ (rw (one_place 48 (n / 100) (omega arith)) at (zero_pieces 0 1 n (omega arith) h (omega arith)))

-- three places with spaces are the quotient and two places, from 100 on
pub three_spaced : (n : ℕ) → 100 ≤ n → n < 1000 → decimal (n / 100) ++ (zero_padded 2 (n % 100) ++ [])
    ≡ space_padded 3 n
three_spaced n low h =
    two_pieces_only _ _ _ (rw (one_place 32 (n / 100) (omega arith)) at (split_pieces 32 1 1 n low (omega arith)))

-- three places with spaces are a space and two places, below 100
pub three_spaced_low : (n : ℕ) → n < 100 → 32 ∷ (space_padded 2 (n % 100) ++ []) ≡ space_padded 3 n
three_spaced_low n h =
    let m : n % 100 ≡ n = omega arith in
    two_pieces_only (32 ∷ []) _ _ (rw m (sym (padded_short 32 1 2 n (length-decimal_two n h))))

-- three places need no padding from 100 on
pub three_whole : (n : ℕ) → 100 ≤ n → n < 2 ^ 64 → zero_padded 3 n ≡ decimal n
three_whole n low h = padded_whole 48 3 n (omega (arith, decimal_longer 2 n low h))

-- lemmas for the calls of three places
pub ruleset three_places = (
  three_zero_padded,
  three_spaced,
  three_spaced_low,
  three_whole,
  length-decimal_three,
  length-three_whole,
  length-decimal_two,
  some_digit,
  length-padded,
)

-- ---- four places

-- a number below 10,000 with zeros: two pairs
pub four_zero_padded : (n : ℕ) → n < 10_000 → zero_padded 2 (n / 100) ++ (zero_padded 2 (n % 100) ++ [])
    ≡ zero_padded 4 n
four_zero_padded n h = two_pieces_only _ _ _ (zero_pieces 1 1 n (omega arith) h (omega arith))

-- four places with spaces have them in the first pair alone, from 100 on
pub four_spaced : (n : ℕ) → 100 ≤ n → n < 10_000 → space_padded 2 (n / 100) ++ (zero_padded 2 (n % 100) ++ [])
    ≡ space_padded 4 n
four_spaced n low h = two_pieces_only _ _ _ (split_pieces 32 2 1 n low (omega arith))

-- four places with spaces are two spaces and two places, below 100
pub four_spaced_low : (n : ℕ) → n < 100 → 32 ∷ 32 ∷ (space_padded 2 (n % 100) ++ []) ≡ space_padded 4 n
four_spaced_low n h =
    let m : n % 100 ≡ n = omega arith in
    two_pieces_only (32 ∷ 32 ∷ []) _ _ (rw m (sym (padded_short 32 2 2 n (length-decimal_two n h))))

-- four places need no padding from 1,000 on
pub four_whole : (n : ℕ) → 1000 ≤ n → n < 2 ^ 64 → zero_padded 4 n ≡ decimal n
four_whole n low h = padded_whole 48 4 n (omega (arith, decimal_longer 3 n low h))

-- lemmas for the calls of four places
pub ruleset four_places = (
  four_zero_padded,
  four_spaced,
  four_spaced_low,
  four_whole,
  length-decimal_four,
  length-four_whole,
  length-decimal_two,
  some_digit,
  length-padded,
)

-- ---- five places and more, the last four of them in two pieces

-- the remainder by 10,000 in four places has the last four digits
pub last_four_digits : (n : ℕ) → n < 2 ^ 64 → zero_padded 4 (n % 10_000) ≡ fixed 4 n
last_four_digits n h = last_zero_padded 3 n h

-- the last four digits of a number below 10,000 are the whole of it in four places
pub four_digits_are_the_whole : (n : ℕ) → n < 10_000 → fixed 4 n ≡ zero_padded 4 n
four_digits_are_the_whole n h = sym (zero_padded_is 3 n h (omega arith))

-- the text is that of the quotient and the last four digits, from 10,000 on
pub five_or_six_digits : (n : ℕ) → 10_000 ≤ n → n < 2 ^ 64 → decimal (n / 10_000) ++ fixed 4 n ≡ zero_padded 4 n
five_or_six_digits n low h = sym (decimal-split 4 n low h)
    ∙ sym (padded_whole 48 4 n (omega (arith, decimal_longer 4 n low h)))

-- a number below 100,000 with zeros: its first digit, and the last four
pub five_zero_padded : (n : ℕ) → n < 100_000 → decimal (n / 10_000) ++ fixed 4 n ≡ zero_padded 5 n
five_zero_padded n h = rw (last_four_digits n (omega arith), one_place 48 (n / 10_000) (omega arith)) at
    (zero_pieces 0 3 n (omega arith) h (omega arith))

-- a number below 1,000,000 with zeros: its first pair, and the last four digits
pub six_zero_padded : (n : ℕ) → n < 1_000_000 → zero_padded 2 (n / 10_000) ++ fixed 4 n ≡ zero_padded 6 n
six_zero_padded n h = rw (last_four_digits n (omega arith)) at (zero_pieces 1 3 n (omega arith) h (omega arith))

-- nine fixed digits: five places with zeros, and the last four digits
pub nine_fixed : (n : ℕ) → n < 1_000_000_000 → zero_padded 5 (n / 10_000) ++ fixed 4 n ≡ fixed 9 n
nine_fixed n h = rw (zero_padded_is 4 (n / 10_000) (omega arith) (omega arith)) (sym (fixed-append 5 4 n))

-- ---- pieces that are taken over from another list of pieces

-- two pieces of another list of two are all of it
pub two_pieces_taken_over : (last : List (Bor (List ℕ))) (d : Bor (List ℕ)) → piece_lengths last ≡ 2 ∷ 2 ∷ []
    → (get_or last 0 d).now
    ++ ((get_or last 1 d).now ++ []) ≡ joined last
two_pieces_taken_over last d h = grind (arith, common_steps)

-- three of one list and two of another are both lists
pub five_pieces_taken_over : (first last : List (Bor (List ℕ))) (d : Bor (List ℕ))
    → piece_lengths first ≡ 1 ∷ 2 ∷ 2 ∷ []
    → piece_lengths last ≡ 2 ∷ 2 ∷ []
    → (get_or first 0 d).now
    ++ ((get_or first 1 d).now
    ++ ((get_or first 2 d).now ++ ((get_or last 0 d).now ++ ((get_or last 1 d).now ++ [])))) ≡ joined first
    ++ joined last
five_pieces_taken_over first last d h k = grind (arith, common_steps, two_pieces_taken_over, append-nil, append_assoc)

-- a piece before such two keeps its own length
pub lengths_before : (front n : ℕ) (last : List (Bor (List ℕ))) (d : Bor (List ℕ)) → piece_lengths last ≡ 2 ∷ 2 ∷ []
    → front ≡ length (decimal n) - 4
    → front ∷ length (get_or last 0 d).now ∷ length (get_or last 1 d).now ∷ [] ≡ (length (decimal n) - 4) ∷ 2 ∷ 2 ∷ []
lengths_before front n last d h k = grind (arith, common_steps)

-- lemmas for the calls of more places
pub ruleset six_places = (
  two_pieces_taken_over,
  five_pieces_taken_over,
  lengths_before,
  last_four_digits,
  four_digits_are_the_whole,
  five_or_six_digits,
  five_zero_padded,
  six_zero_padded,
  nine_fixed,
  length-before_four,
  length-before_none,
  length-fixed,
  length-digit,
  length-decimal_two,
  some_digit,
  length-padded,
)
