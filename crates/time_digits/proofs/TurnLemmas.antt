-- A number that is written from its last digits on, so many a turn.
use Rattle.std.proofs.Common.{◌≡◌, ℕ, zero, suc, ◌+◌, ◌-◌, ◌/◌, ◌%◌, ◌^◌, ◌<◌, ◌≤◌, ◌≢◌, List, [], ◌++◌, length, drop}
use Rattle.std.proofs.Common.{sym, ap, ◌∙◌, arith, append_assoc, length-append, length-drop, decimal, ⊎_elim, ◌⊎◌}
use Rattle.std.proofs.Common.{inl, inr, subst}
use Rattle.std.proofs.Math.Nat.{one-le-pow, div-le_self}
use Rattle.std.proofs.lemmas.List.{append-nil, drop_all}
use Rattle.std.proofs.lemmas.Bool.{cases_lt}
use Rattle.std.proofs.lemmas.Nat.{le-div, div_below}
use Rattle.time_digits.specs.Digits.{fixed}
use Rattle.time_digits.proofs.DigitLemmas.{fixed-mod, zero_padded_is, padded_whole, decimal_one, decimal-split}
use Rattle.time_digits.proofs.LengthLemmas.{length-fixed, decimal_longer, length-decimal_word}
use Rattle.time_digits.proofs.WriteLemmas.{put_at, length-put_at, drop-put_at}
use Rattle.std.proofs.lemmas.Grind.{common_steps}

-- ---- what a turn takes off a number

-- the digits of n, none for zero
abbrev pub significant_digits : ℕ → List ℕ
significant_digits zero = []
significant_digits (suc n) = decimal (suc n)

-- another number has its decimal text
significant_digits_some : (n : ℕ) → 0 < n → significant_digits n ≡ decimal n
significant_digits_some n h = grind (arith, common_steps)

-- significant digits are those of the quotient by 10 ^ (k + 1) and the last k + 1, from 10 ^ k on
significant_digits-split : (k n : ℕ) → 10 ^ k ≤ n → n < 2 ^ 64
    → significant_digits n ≡ significant_digits (n / 10 ^ suc k)
    ++ fixed (suc k) n
significant_digits-split k n low fits =
    ⊎_elim (λ (less : n < 10 ^ suc k).
    let none : n / 10 ^ suc k
    ≡ 0 = omega (arith, div_below n (10 ^ suc k) 1 (one-le-pow (suc k) 10 (omega arith)) (omega arith)) in
    let some : 0 < n = omega (arith, one-le-pow k 10 (omega arith)) in
    rw none (significant_digits_some n some ∙ sym (padded_whole 48 (suc k) n (decimal_longer k n low fits))
    ∙ zero_padded_is k n less fits))
    (λ (more : 10 ^ suc k ≤ n).
    let some : 0 < n = omega (arith, one-le-pow (suc k) 10 (omega arith)) in
    let front : 0 < n / 10 ^ suc k = le-div 1 n (10 ^ suc k) (one-le-pow (suc k) 10 (omega arith)) (omega arith) in
    rw (significant_digits_some n some, significant_digits_some (n / 10 ^ suc k) front)
    (decimal-split (suc k) n more fits))
    (cases_lt n (10 ^ suc k))

-- a number has k + 1 more significant digits than its quotient by 10 ^ (k + 1)
length-significant_digits : (k n : ℕ) → 10 ^ k ≤ n → n < 2 ^ 64 → length (significant_digits n)
    ≡ length (significant_digits (n / 10 ^ suc k)) + suc k
length-significant_digits k n low fits =
    ap length (significant_digits-split k n low fits)
    ∙ length-append (significant_digits (n / 10 ^ suc k)) (fixed (suc k) n)
    ∙ ap (λ m. length (significant_digits (n / 10 ^ suc k)) + m) (length-fixed (suc k) n)

-- a number of 64 bits has at most 20
length-significant_digits_word : (n : ℕ) → n < 2 ^ 64 → length (significant_digits n) ≤ 20
length-significant_digits_word n h = grind (arith, common_steps, length-decimal_word)

-- ---- turns

-- the digits of the rest fit before the start, and belong before what is written
pub record IsPending (value rest start : ℕ) (bytes : List ℕ) : Type 0 where
  pub size : length bytes ≡ 20
  pub within : start ≤ 20
  pub below : rest ≤ value
  pub room : length (significant_digits rest) ≤ start
  pub text : significant_digits rest ++ drop start bytes ≡ significant_digits value

-- all digits are left before the first turn
pub nothing_written : (value : ℕ) (bytes : List ℕ) → value < 2 ^ 64 → length bytes ≡ 20 → IsPending value value 20 bytes
nothing_written value bytes fits size =
    grind (arith, common_steps, drop_all, length-significant_digits_word, append-nil)

-- a turn of k + 1 digits fits if more than k of them are left
pub places_left : (k value rest start : ℕ) (bytes : List ℕ) → IsPending value rest start bytes → 10 ^ k ≤ rest
    → rest < 2 ^ 64 → suc k ≤ start
places_left k value rest start bytes p low fits = omega (arith, p.room, length-significant_digits k rest low fits)

-- a turn of k + 1 digits leaves the quotient by 10 ^ (k + 1)
pub more_written : (k value rest start : ℕ) (bytes after : List ℕ) → IsPending value rest start bytes → 10 ^ k ≤ rest
    → rest < 2 ^ 64
    → after ≡ put_at (start - suc k) (suc k) bytes (fixed (suc k) (rest % 10 ^ suc k))
    → IsPending value (rest / 10 ^ suc k) (start - suc k) after
more_written k value rest start bytes after p low fits written =
    let places = places_left k value rest start bytes p low fits in
    let digits = rw fixed-mod at written in
    let end : start - suc k + suc k ≡ start = omega arith in
    let room : start - suc k + suc k ≤ length bytes = omega (arith, p.size, p.within) in
    let front = significant_digits (rest / 10 ^ suc k) in
    record {
      size = ap length digits ∙ length-put_at (start - suc k) (suc k) bytes (fixed (suc k) rest) room
          (length-fixed (suc k) rest) ∙ p.size;
      within = omega (arith, p.within);
      below = omega (arith, p.below, div-le_self rest (10 ^ suc k));
      room = omega (arith, p.room, length-significant_digits k rest low fits);
      text = rw (digits, drop-put_at (start - suc k) (suc k) bytes (fixed (suc k) rest) (omega (arith, room)), end)
          (sym (append_assoc front (fixed (suc k) rest) (drop start bytes))
          ∙ ap (λ ds. ds ++ drop start bytes) (sym (significant_digits-split k rest low fits)) ∙ p.text);
    }

-- ---- the end

-- a rest of zero means that all is written, but for the number zero
pub no_digit_left : (value start : ℕ) (bytes : List ℕ) → IsPending value 0 start bytes → 0 < value → drop start bytes
    ≡ decimal value
no_digit_left value start bytes p some = p.text ∙ significant_digits_some value some

-- nothing of zero is written yet
zero_has_nothing_written : (value rest start : ℕ) (bytes : List ℕ) → IsPending value rest start bytes → value ≡ 0
    → (start ≡ 20)
    × (drop start bytes ≡ [])
zero_has_nothing_written value rest start bytes p none = grind (arith, length-drop)

-- one digit is left, or the number is zero, whose digit is
abbrev pub IsLast : ℕ → ℕ → Type 0
IsLast value rest = (rest ≢ 0) ⊎ ((rest ≡ 0) × (value ≡ 0))

-- the last digit fits
pub last_place : (value rest start : ℕ) (bytes : List ℕ) → IsPending value rest start bytes → rest ≤ 9
    → IsLast value rest → 1 ≤ start
last_place value rest start bytes p one (inl some) = places_left 0 value rest start bytes p (omega arith) (omega arith)
last_place value rest start bytes p one (inr none) = grind (arith, zero_has_nothing_written)

-- the last digit completes the text
pub all_written : (value rest start : ℕ) (bytes after : List ℕ) → IsPending value rest start bytes → rest ≤ 9
    → IsLast value rest → after ≡ put_at (start - 1) 1 bytes (fixed 1 rest)
    → drop (start - 1) after ≡ decimal value
all_written value rest start bytes after p one (inl some) written =
    let digit : rest % 10 ≡ rest = omega arith in
    let last : rest / 10 ≡ 0 = omega arith in
    let P : ℕ → Type 0 = λ r. IsPending value r (start - 1) after in
    let done : IsPending value 0 (start - 1) after =
    subst P last (more_written 0 value rest start bytes after p (omega arith) (omega arith)
    (rw (sym digit) at written)) in
    no_digit_left value (start - 1) after done (omega (arith, p.below))
all_written value rest start bytes after p one (inr none) written =
    grind (arith, zero_has_nothing_written, drop-put_at, append-nil, decimal_one)
