-- Eight digits that are looked at together.
use Rattle.std.proofs.Common.{ℕ, suc, ◌≡◌, ◌+◌, ◌*◌, ◌<◌, ◌%◌, ◌^◌, ◌∙◌, Bool, true, false, not, cond, List, [], ◌∷◌, length, map, get_or, refl, sym, ap, arith}
use Rattle.std.proofs.lemmas.Bool.{agree_below, agree_below_at, not-true}
use Rattle.std.proofs.lemmas.Bool.Decides.{nat_tests}
use Rattle.std.proofs.lemmas.List.{length-map}
use Rattle.std.proofs.lemmas.List.Sums.{prefix_len_passes}
use Rattle.std.proofs.lemmas.Simd.{leading_from_mask_l, map-map, mask_l-mod}
use Rattle.std.proofs.lemmas.Str.Parse.{digit_at, numerals_by_value, tells_by_index}
use Rattle.std.specs.Char.{is_ascii_digit}
use Rattle.std.specs.Int.{IsInRange}
use Rattle.std.specs.Prelude.{◌↔◌}
use Rattle.std.specs.Str.Parse.{AllDigits}
use lib.Lanes.{mask_l, top}

pub digit_range : (b : ℕ) → is_ascii_digit b ≡ true → IsInRange 48 57 b
digit_range b h = grind arith

pub range_digit : (b : ℕ) → IsInRange 48 57 b → is_ascii_digit b ≡ true
range_digit b range = grind (arith, nat_tests)

-- where nothing passes, no bit of the mask is set
none_set : {X : Type 0} (p : X → Bool) (d : X) (xs : List X) → ((k : ℕ) → k < length xs → p (get_or xs k d) ≡ false)
    → mask_l (map p xs) ≡ 0
none_set p d [] none = refl
none_set p d (x ∷ xs) none =
    let first : p x ≡ false = none 0 (omega arith) in
    let others = none_set p d xs (λ k lt. none (suc k) (omega (arith, lt))) in
    ap (λ b. cond b 1 0 + 2 * mask_l (map p xs)) first ∙ omega (arith, others)

-- where lanes were computed from eight bytes, and those have their highest bit whose byte is no digit, all are digits
-- if and only if no bit of the mask is set
pub digits_of_lanes : (f : ℕ → ℕ) (bytes lanes : List ℕ) → length bytes ≡ 8
    → ((k : ℕ) → k < length bytes → get_or bytes k 0 < 256) → lanes ≡ map f bytes
    → agree_below (λ b. not (top 7 (f b))) is_ascii_digit 256 ≡ true
    → (mask_l (map (top 7) lanes) % 2 ^ 64 ≡ 0) ↔ AllDigits 10 bytes
digits_of_lanes f bytes lanes long small are all =
    let others = λ (b : ℕ). top 7 (f b) in
    let agree = λ (k : ℕ) (lt : k < length bytes).
    agree_below_at (λ b. not (others b)) is_ascii_digit 256 (get_or bytes k 0) all (small k lt) in
    let mask : mask_l (map (top 7) lanes) % 2 ^ 64 ≡ mask_l (map others bytes) =
    ap (λ l. mask_l l % 2 ^ 64) (ap (map (top 7)) are ∙ map-map (top 7) f bytes)
    ∙ mask_l-mod (map others bytes) 64 (omega (arith, length-map bytes others, long)) in (
      λ clear.
          let run = leading_from_mask_l others bytes (sym mask ∙ clear) in
          (numerals_by_value _ tells_by_index).to bytes
          (λ k lt. digit_range (get_or bytes k 0)
          (sym (agree k lt) ∙ prefix_len_passes (λ b. not (others b)) bytes k 0 (omega (arith, run, lt)))),
      λ digits.
          mask ∙ none_set others 0 bytes
          (λ k lt. not-true _ (agree k lt ∙ range_digit (get_or bytes k 0) (digit_at bytes k digits lt))),
    )
