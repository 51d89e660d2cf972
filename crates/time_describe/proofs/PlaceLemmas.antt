-- The place of the first element that passes a test.
use Rattle.std.proofs.Common.{◌≡◌, ℕ, ◌+◌, ◌-◌, ◌<◌, ◌≤◌, Bool, true, false, not, cond, ltb, List, length, take, drop, Option, Some, None, refl, sym, ap, ◌∙◌, arith}
use Rattle.std.specs.List.{position_or_len, position, after_first}
use Rattle.std.proofs.lemmas.Bool.{ltb-true, ltb-false}
use Rattle.std.proofs.lemmas.List.{take_all, length-drop}
use Rattle.std.proofs.Math.Seq.{drop-drop}
use Rattle.std.proofs.lemmas.List.Sums.{prefix_len-le-length}

-- what a test that chooses between a place and nothing said
some_place : (b : Bool) (n m : ℕ) → cond b (Some n) None ≡ Some m → (b ≡ true) × (m ≡ n)
some_place true n m e = (refl, cc)
some_place false n m e = absurd cc

no_place : (b : Bool) (n : ℕ) → cond b (Some n) None ≡ None → b ≡ false
no_place true n e = absurd cc
no_place false n e = refl

-- a place that was found is the number of elements before it, and one of the list's
pub found_place : (p : ℕ → Bool) (xs : List ℕ) (r : Option ℕ) (n : ℕ) → r ≡ position p xs → r ≡ Some n → (n ≡ position_or_len p xs) × (n < length xs)
found_place p xs r n is some =
    let w = some_place (ltb (position_or_len p xs) (length xs)) (position_or_len p xs) n (sym is ∙ some) in
    let lt : position_or_len p xs < length xs = ltb-true _ _ w.0 in
    (w.1, omega arith)

-- where none was found, all elements come before it
pub no_place_found : (p : ℕ → Bool) (xs : List ℕ) (r : Option ℕ) → r ≡ position p xs → r ≡ None → length xs ≡ position_or_len p xs
no_place_found p xs r is none =
    let le : length xs ≤ position_or_len p xs = ltb-false _ _ (no_place (ltb (position_or_len p xs) (length xs)) (position_or_len p xs) (sym is ∙ none)) in
    omega (arith, prefix_len-le-length (λ x. not (p x)) xs)

-- what is after the place that was found
pub after_place : (p : ℕ → Bool) (xs back : List ℕ) (n : ℕ) → Some n ≡ position p xs → back ≡ drop n xs
    → take (length back - 1) (drop 1 back) ≡ after_first p xs
after_place p xs back n is back-is =
    let w = found_place p xs (Some n) n is refl in
    let all : take (length back - 1) (drop 1 back) ≡ drop 1 back = take_all (length back - 1) (drop 1 back) (omega (arith, length-drop 1 back)) in
    all ∙ ap (drop 1) back-is ∙ drop-drop 1 n xs ∙ ap (λ (k : ℕ). drop (k + 1) xs) w.0

-- no place is past the end
pub place_inside : (p : ℕ → Bool) (xs : List ℕ) → position_or_len p xs ≤ length xs
place_inside p xs = prefix_len-le-length (λ x. not (p x)) xs
