-- Digits that are written into bytes.
use Rattle.std.proofs.Common.{◌≡◌, ℕ, ◌+◌, ◌/◌, ◌%◌, ◌<◌, ◌≤◌, List, [], ◌∷◌, ◌++◌, length, take, drop, set, get_or}
use Rattle.std.proofs.Common.{refl, sym, ap, ◌∙◌, arith, append_assoc, length-append, length-drop}
use Rattle.std.proofs.lemmas.List.{append-nil, take-append-drop, take-set, drop-set, drop-drop, drop_all, take_at}
use Rattle.std.proofs.lemmas.List.{drop_at, length-take-le}
use Rattle.time_digits.specs.Digits.{fixed, zero_padded}
use Rattle.time_digits.proofs.DigitLemmas.{fixed-append, fixed-mod, zero_padded_is, decimal_one}
use Rattle.time_digits.proofs.LengthLemmas.{length-fixed}
use Rattle.std.proofs.lemmas.Grind.{common_steps}

-- xs in the place of the k bytes from a on
abbrev pub put_at : ℕ → ℕ → List ℕ → List ℕ → List ℕ
put_at a k bs xs = take a bs ++ xs ++ drop (a + k) bs

-- a write of as many bytes keeps the length
pub length-put_at : (a k : ℕ) (bs xs : List ℕ) → a + k ≤ length bs → length xs ≡ k
    → length (put_at a k bs xs) ≡ length bs
length-put_at a k bs xs room width = grind (arith, length-append, length-take-le, length-drop)

-- the bytes from the place of a write on are what is written, and then what followed it
pub drop-put_at : (a k : ℕ) (bs xs : List ℕ) → a ≤ length bs → drop a (put_at a k bs xs) ≡ xs ++ drop (a + k) bs
drop-put_at a k bs xs room = grind (arith, append_assoc, drop_at, length-take-le)

-- a write right after another is one write of both
puts_one_after_the_other : (a j k : ℕ) (bs xs ys : List ℕ) → a + j + k ≤ length bs → length xs ≡ j
    → put_at (a + j) k (put_at a j bs xs) ys
    ≡ put_at a (j + k) bs (xs ++ ys)
puts_one_after_the_other a j k bs xs ys room width =
    let old = put_at a j bs xs in
    let places : a + (j + k) ≡ a + j + k = omega arith in
    let front : length (take a bs ++ xs) ≡ a + j = omega (
      arith,
      length-append (take a bs) xs,
      length-take-le a bs (omega arith),
    ) in
    let before : take (a + j) old ≡ take a bs ++ xs = take_at (take a bs ++ xs) (drop (a + j) bs) (a + j) front in
    let behind : drop (a + j) old ≡ drop (a + j) bs = drop_at (take a bs ++ xs) (drop (a + j) bs) (a + j) front in
    let rest : drop (a + j + k) old ≡ drop (a + j + k) bs = sym (drop-drop k (a + j) old) ∙ ap (drop k) behind
    ∙ drop-drop k (a + j) bs in
    rw (places, before, rest, append_assoc (take a bs) xs ys) refl

-- ---- one and two bytes

-- one byte that is set is a write of one
set_byte_is_put : (a x : ℕ) (bs : List ℕ) → a < length bs → set bs a x ≡ put_at a 1 bs (x ∷ [])
set_byte_is_put a x bs room = sym (take-append-drop a (set bs a x))
    ∙ rw (take-set, drop-set bs a x room) (sym (append_assoc (take a bs) (x ∷ []) (drop (a + 1) bs)))

-- the byte of a text of one, set at a
pub one_byte_put : (a : ℕ) (bs ds zs : List ℕ) → a + 1 ≤ length bs → length ds ≡ 1 → ds ≡ zs → set bs a (get_or ds 0 0)
    ≡ put_at a 1 bs zs
one_byte_put a bs ds zs h k l = grind (arith, common_steps, set_byte_is_put)

-- the bytes of a text of two, set at a and after it
pub two_bytes_put : (a : ℕ) (bs ds zs : List ℕ) → a + 2 ≤ length bs → length ds ≡ 2 → ds ≡ zs
    → set (set bs a (get_or ds 0 0)) (a + 1) (get_or ds 1 0) ≡ put_at a 2 bs zs
two_bytes_put a bs ds zs h k l = grind (arith, common_steps, set_byte_is_put, puts_one_after_the_other)

-- two places with zeros are two fixed digits
pub two_fixed : (n : ℕ) → n < 100 → zero_padded 2 n ≡ fixed 2 n
two_fixed n h = zero_padded_is 1 n h (omega arith)

-- lemmas for the calls that write one digit, and two
pub ruleset digit_writes = (two_fixed, decimal_one, one_byte_put, two_bytes_put, length-fixed)

-- ---- groups of digits

-- two pairs are four digits
two_pairs : (n : ℕ) → fixed 2 (n / 100) ++ fixed 2 (n % 100) ≡ fixed 4 n
two_pairs n = ap (λ bs. fixed 2 (n / 100) ++ bs) (fixed-mod 2 n) ∙ sym (fixed-append 2 2 n)

-- two pairs written one after the other are four digits written
pub four_written : (a n : ℕ) (bs : List ℕ) → a + 4 ≤ length bs
    → put_at (a + 2) 2 (put_at a 2 bs (fixed 2 (n / 100))) (fixed 2 (n % 100)) ≡ put_at a 4 bs (fixed 4 n)
four_written a n bs room = grind (arith, puts_one_after_the_other, length-fixed, two_pairs)

-- one digit and two groups of four are nine digits
one_and_two_fours : (n : ℕ) → fixed 1 (n / 10_000 / 10_000) ++ fixed 4 (n / 10_000 % 10_000) ++ fixed 4 (n % 10_000)
    ≡ fixed 9 n
one_and_two_fours n =
    rw (fixed-mod 4 (n / 10_000), fixed-mod 4 n) (rw (sym (fixed-append 1 4 (n / 10_000))) (sym (fixed-append 5 4 n)))

-- nine digits are three groups, written into nine bytes one after the other
pub nine_written : (n : ℕ) (b₀ b₁ b₂ b₃ : List ℕ) → length b₀ ≡ 9
    → b₁ ≡ put_at 0 1 b₀ (fixed 1 (n / 10_000 / 10_000)) → b₂
    ≡ put_at 1 4 b₁ (fixed 4 (n / 10_000 % 10_000))
    → b₃ ≡ put_at 5 4 b₂ (fixed 4 (n % 10_000)) → b₃ ≡ fixed 9 n
nine_written n b₀ b₁ b₂ b₃ nine one_is two_is three_is =
    let one = fixed 1 (n / 10_000 / 10_000) in
    let four = fixed 4 (n / 10_000 % 10_000) in
    let last = fixed 4 (n % 10_000) in
    let width : length (one ++ four) ≡ 5 = omega (
      arith,
      length-append one four,
      length-fixed 1 (n / 10_000 / 10_000),
      length-fixed 4 (n / 10_000 % 10_000),
    ) in
    let both : b₂ ≡ put_at 0 5 b₀ (one ++ four) = two_is ∙ ap (λ bs. put_at 1 4 bs four) one_is
    ∙ puts_one_after_the_other 0 1 4 b₀ one four (omega arith) (length-fixed 1 (n / 10_000 / 10_000)) in
    let all : b₃ ≡ put_at 0 9 b₀ (one ++ four ++ last) = three_is ∙ ap (λ bs. put_at 5 4 bs last) both
    ∙ puts_one_after_the_other 0 5 4 b₀ (one ++ four) last (omega arith) width in
    let none : drop 9 b₀ ≡ [] = drop_all 9 b₀ (omega arith) in
    all ∙ rw (none, append-nil) (one_and_two_fours n)
