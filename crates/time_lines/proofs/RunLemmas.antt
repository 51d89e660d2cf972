-- Runs of digits, and masks of sixteen bytes.
use Rattle.std.proofs.Common.{ℕ, ◌≡◌, ◌+◌, ◌<◌, ◌≤◌, ◌%◌, ◌^◌, Bool, true, false, not, eqb, cond, List, length, map, take, get_or, ◌∙◌, sym, ap, inl, inr, arith}
use Rattle.std.proofs.lemmas.Bool.{cases_lt}
use Rattle.std.proofs.lemmas.List.{length-map, length-take, get_or-take}
use Rattle.std.proofs.lemmas.List.Sums.{prefix_len_is, prefix_len-le-length, prefix_len_passes, prefix_len_stops}
use Rattle.std.proofs.lemmas.Bool.{agree_below, agree_below_at}
use Rattle.std.proofs.lemmas.Simd.{first_set_mask_l, map-map, mask_l-mod}
use Rattle.std.specs.Char.{is_ascii_digit}
use lib.Count.{count_trailing_zeros}
use lib.Lanes.{mask_l, top}
use Rattle.std.specs.List.{prefix_len}
use Rattle.time_lines.specs.Number.{digit_count}

-- tests that agree at each byte pass as many first bytes
pub same_run : (p q : ℕ → Bool) (xs : List ℕ) → ((k : ℕ) → k < length xs → p (get_or xs k 0) ≡ q (get_or xs k 0))
    → prefix_len p xs ≡ prefix_len q xs
same_run p q xs same =
    prefix_len_is p xs (prefix_len q xs) 0 (prefix_len-le-length q xs)
    (λ k lt. same k (omega (arith, lt, prefix_len-le-length q xs)) ∙ prefix_len_passes q xs k 0 lt)
    (λ lt. same (prefix_len q xs) lt ∙ prefix_len_stops q xs 0 lt)

apart : (b : Bool) → b ≡ true → b ≡ false → ⊥
apart b p q = cc

-- where a byte passes behind others that do, one more does
pub run_more : (text : List ℕ) (count : ℕ) → count ≤ digit_count text → count < length text
    → is_ascii_digit (get_or text count 0) ≡ true → count + 1 ≤ digit_count text
run_more text count le lt digit = elim (cases_lt count (digit_count text)) [
  | inl less ↦ omega (arith, less)
  | inr more ↦
      let same : digit_count text ≡ count = omega (arith, le, more) in
      absurd (apart _ digit (ap (λ k. is_ascii_digit (get_or text k 0)) (sym same)
      ∙ prefix_len_stops is_ascii_digit text 0 (omega (arith, same, lt))))
]

-- digits that no digit follows are all with which the text begins
pub run_ends : (text : List ℕ) (count : ℕ) → count ≤ digit_count text
    → (count < length text → is_ascii_digit (get_or text count 0) ≡ false) → count ≡ digit_count text
run_ends text count le ends =
    sym
    (prefix_len_is is_ascii_digit text count 0 (omega (arith, le, prefix_len-le-length is_ascii_digit text))
    (λ k lt. prefix_len_passes is_ascii_digit text k 0 (omega (arith, lt, le))) ends)

-- some first bytes begin with no more digits than the text
pub run_of_first : (n : ℕ) (text : List ℕ) → prefix_len is_ascii_digit (take n text) ≤ digit_count text
run_of_first n text = elim (cases_lt (digit_count text) (prefix_len is_ascii_digit (take n text))) [
  | inl less ↦
      let inside : digit_count text < length (take n text) =
      omega (arith, less, prefix_len-le-length is_ascii_digit (take n text)) in
      let size = length-take n text in
      absurd (apart _
      (ap is_ascii_digit (sym (get_or-take n text (digit_count text) 0 (omega (arith, inside, size))))
      ∙ prefix_len_passes is_ascii_digit (take n text) (digit_count text) 0 less)
      (prefix_len_stops is_ascii_digit text 0 (omega (arith, inside, size))))
  | inr more ↦ more
]

-- and with all that the text does where they end within these bytes
pub run_in_first : (n : ℕ) (text : List ℕ) (count : ℕ) → n ≤ length text → count ≡ prefix_len is_ascii_digit (take n text)
    → count < n → count ≡ digit_count text
run_in_first n text count room is short =
    run_ends text count (omega (arith, is, run_of_first n text))
    (λ lt. ap is_ascii_digit (sym (get_or-take n text count 0 short))
    ∙ ap (λ k. is_ascii_digit (get_or (take n text) k 0)) is
    ∙ prefix_len_stops is_ascii_digit (take n text) 0 (omega (arith, is, short, room, length-take n text)))

-- where lanes were computed from bytes, and just those have their highest bit whose byte fails the test, the lowest
-- bit of the mask is the first byte that fails
pub run_of_lanes : (p : ℕ → Bool) (f : ℕ → ℕ) (bytes lanes : List ℕ) (run : ℕ) → length bytes ≡ 16
    → ((k : ℕ) → k < length bytes → get_or bytes k 0 < 256)
    → run ≡ cond (eqb (mask_l (map (top 7) lanes) % 2 ^ 64) 0) 16 (count_trailing_zeros 64 (mask_l (map (top 7) lanes) % 2 ^ 64))
    → lanes ≡ map f bytes → agree_below (λ b. not (top 7 (f b))) p 256 ≡ true → run ≡ prefix_len p bytes
run_of_lanes p f bytes lanes run long small found are all =
    let stops = λ (b : ℕ). top 7 (f b) in
    let mask : mask_l (map (top 7) lanes) % 2 ^ 64 ≡ mask_l (map stops bytes) =
    ap (λ l. mask_l l % 2 ^ 64) (ap (map (top 7)) are ∙ map-map (top 7) f bytes)
    ∙ mask_l-mod (map stops bytes) 64 (omega (arith, length-map bytes stops, long)) in
    found ∙ ap (λ m. cond (eqb m 0) 16 (count_trailing_zeros 64 m)) mask ∙ first_set_mask_l stops bytes 16 long (omega arith)
    ∙ same_run (λ b. not (stops b)) p bytes (λ k lt. agree_below_at (λ b. not (stops b)) p 256 (get_or bytes k 0) all (small k lt))
