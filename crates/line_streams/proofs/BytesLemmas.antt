-- The first place of a byte, as a search for it answers.
use Rattle.std.proofs.Common.{◌≡◌, refl, ⊎_elim, ℕ, ◌<◌, ◌≤◌, List, length, Bool, true, false, Option, Some, None, get_or}
use Rattle.std.proofs.Common.{arith}
use Rattle.std.proofs.lemmas.Bool.{cases_lt, cond_above, cond_below}
use Rattle.std.proofs.lemmas.List.Sums.{passes_at_first, fails_before_first}
use Rattle.std.specs.List.{position, position_or_len}
use Rattle.memchr.specs.Find.{IsFirstByte}

-- what passes does not fail
no_both : (b : Bool) → b ≡ true → b ≡ false → ⊥
no_both b holds fails = cc

-- the first element that passes is the answer, if one does
some_position : (p : ℕ → Bool) (xs : List ℕ) (i : ℕ) → i < length xs → position_or_len p xs ≡ i → Some i ≡ position p xs
some_position p xs i inside e =
    rw (← e) (cond_below (position_or_len p xs) (length xs) (Some (position_or_len p xs)) None (omega arith))

no_position : (p : ℕ → Bool) (xs : List ℕ) → length xs ≤ position_or_len p xs → None ≡ position p xs
no_position p xs past = cond_above (position_or_len p xs) (length xs) (Some (position_or_len p xs)) None None past refl

-- the first place that a search finds is the first position
pub first_byte : (p : ℕ → Bool) (xs : List ℕ) (r : Option ℕ) → IsFirstByte p xs r → r ≡ position p xs
first_byte p xs None nowhere =
    ⊎_elim
    (λ inside. absurd (nowhere (position_or_len p xs) (omega arith) inside (passes_at_first p xs 0 inside)))
    (λ past. no_position p xs past)
    (cases_lt (position_or_len p xs) (length xs))
first_byte p xs (Some k) first =
    ⊎_elim
    (λ early. absurd (no_both (p (get_or xs k 0)) first.1 (fails_before_first p xs k 0 early)))
    (λ late.
    ⊎_elim
    (λ before. absurd (first.0.before (position_or_len p xs) (omega arith) before
    (passes_at_first p xs 0 (omega (arith, first.0.high)))))
    (λ same. some_position p xs k first.0.high (omega arith))
    (cases_lt (position_or_len p xs) k))
    (cases_lt k (position_or_len p xs))
