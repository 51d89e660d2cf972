-- The digits of a literal, one by one.
use Rattle.std.proofs.Common.{◌≡◌, ◌≢◌, ℕ, zero, suc, ◌+◌, ◌-◌, ◌*◌, ◌<◌, ◌≤◌, List, [], ◌∷◌, length, get_or, take, Bool, true, false, ◌==◌, refl, subst, arith, add-one}
use Rattle.std.specs.Int.{IsInRange}
use Rattle.std.specs.Str.{all_ascii_digits}
use Rattle.std.specs.Str.Parse.{AllDigits, digits_value}
use Rattle.std.proofs.lemmas.Bool.{ne_eqb}
use Rattle.std.proofs.lemmas.Str.{digit_value_digit}
use Rattle.std.proofs.lemmas.Str.Parse.{tells_all_ascii_digits}
use Rattle.time_read.proofs.Fractions.{digit_next}
use Rattle.time.specs.Literals.{digits_of}

-- each of them is a digit
pub all_digits : (ds : List ℕ) → all_ascii_digits ds ≡ true → AllDigits 10 ds
all_digits [] h = tt
all_digits (c ∷ cs) h =
    let parts = tells_all_ascii_digits.parts c cs h in
    let value = digit_value_digit c parts.0 in
    (omega (arith, parts.0, value), all_digits cs parts.1)

-- the byte at i, if it is no underscore, is the next digit after those of the bytes before it
pub record NextDigit (literal : List ℕ) (i : ℕ) : Type 0 where
  pub there : length (digits_of (take i literal)) < length (digits_of literal)
  pub same : get_or (digits_of literal) (length (digits_of (take i literal))) 0 ≡ get_or literal i 0
  pub more : length (digits_of (take (suc i) literal)) ≡ suc (length (digits_of (take i literal)))

pub next_digit : (literal : List ℕ) (i : ℕ) → i < length literal → (get_or literal i 0 == 95) ≡ false → NextDigit literal i
next_digit [] i lt h = absurd (omega (arith, lt))
next_digit (c ∷ cs) zero lt h = record { there = rw h (omega arith); same = rw h refl; more = rw h refl }
next_digit (c ∷ cs) (suc i) lt h = by_first (c == 95) refl (next_digit cs i (omega (arith, lt)) h) where
  by_first : (b : Bool) → (c == 95) ≡ b → NextDigit cs i → NextDigit (c ∷ cs) (suc i)
  by_first true e rest = record { there = rw e rest.there; same = rw e rest.same; more = rw e rest.more }
  by_first false e rest =
      record {
        there = rw e (omega (arith, rest.there));
        same = rw e rest.same;
        more = rw e (omega (arith, rest.more));
      }

-- an underscore at i adds no digit
pub no_digit : (literal : List ℕ) (i : ℕ) → i < length literal → (get_or literal i 0 == 95) ≡ true
    → length (digits_of (take (suc i) literal)) ≡ length (digits_of (take i literal))
no_digit [] i lt h = absurd (omega (arith, lt))
no_digit (c ∷ cs) zero lt h = rw h refl
no_digit (c ∷ cs) (suc i) lt h = by_first (c == 95) refl (no_digit cs i (omega (arith, lt)) h) where
  by_first : (b : Bool) → (c == 95) ≡ b
      → length (digits_of (take (suc i) cs)) ≡ length (digits_of (take i cs))
      → length (digits_of (take (suc (suc i)) (c ∷ cs))) ≡ length (digits_of (take (suc i) (c ∷ cs)))
  by_first true e rest = rw e rest
  by_first false e rest = rw e (omega (arith, rest))

-- one more digit, after the number of those before it
pub record Step (literal : List ℕ) (i count number : ℕ) : Type 0 where
  pub few : count < 9
  pub small : number < 100_000_000
  pub digit : IsInRange 48 57 (get_or literal i 0)
  pub count_after : count + 1 ≡ length (digits_of (take (i + 1) literal))
  pub number_after : number * 10 + (get_or literal i 0 - 48) ≡ digits_value 10 (take (count + 1) (digits_of literal))

pub step : (literal : List ℕ) (i count number : ℕ) → i < length literal → get_or literal i 0 ≢ 95
    → count ≡ length (digits_of (take i literal))
    → number ≡ digits_value 10 (take count (digits_of literal))
    → length (digits_of literal) ≤ 9
    → all_ascii_digits (digits_of literal) ≡ true
    → Step literal i count number
step literal i count number lt other is value most all =
    let next = next_digit literal i lt (ne_eqb (get_or literal i 0) 95 other) in
    let few : count < length (digits_of literal) = omega (arith, next.there, is) in
    let digit = digit_next (digits_of literal) count (all_digits (digits_of literal) all) few in
    let same : get_or (digits_of literal) count 0 ≡ get_or literal i 0 = rw is next.same in
    record {
      few = omega (arith, few, most);
      small = omega (arith, digit.small (omega (arith, few, most)), value);
      digit = subst (λ b. IsInRange 48 57 b) same digit.digit;
      count_after = rw (add-one i) (omega (arith, next.more, is));
      number_after = omega (arith, digit.value, same, value);
    }

-- an underscore leaves the digits as they were
pub skip : (literal : List ℕ) (i count : ℕ) → i < length literal → get_or literal i 0 ≡ 95
    → count ≡ length (digits_of (take i literal)) → count ≡ length (digits_of (take (i + 1) literal))
skip literal i count lt is h =
    rw (add-one i) (omega (arith, h, no_digit literal i lt (rw is refl)))
