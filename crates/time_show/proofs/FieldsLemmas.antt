-- The fields of a line, and the numbers that digits spell.
use Rattle.std.proofs.Common.{ℕ, ℤ, ◌≡◌, ◌+◌, ◌-◌, ◌*◌, ◌^◌, ◌<◌, ◌≤◌, ◌++◌, Bool, true, List, [], ◌∷◌}
use Rattle.std.proofs.Common.{length, take, drop, get_or, Option, Some, None, inl, inr, refl, ◌∙◌}
use Rattle.std.proofs.Common.{slice_set, arith, rules}
use Rattle.std.proofs.lemmas.Bool.{cases_lt}
use Rattle.std.proofs.lemmas.Grind.{common_steps}
use Rattle.std.proofs.lemmas.Int.Digits.{digits_value_more}
use Rattle.std.proofs.lemmas.List.{length-take, take_more}
use Rattle.std.proofs.lemmas.List.Folds.{list_all_more}
use Rattle.std.proofs.lemmas.List.Splits.{slice_split_first}
use Rattle.std.proofs.lemmas.Str.{digit_value_digit}
use Rattle.std.proofs.lemmas.Str.Parse.{IsDigitsTest, IsNumeralModel, numerals_by_value, digits_value_short}
use Rattle.std.specs.Char.{is_ascii_digit, digit_value}
use Rattle.std.specs.Int.{IsInRange}
use Rattle.std.specs.List.{slice_split, list_all, position, position_or_len}
use Rattle.std.specs.Option.{option_map}
use Rattle.std.specs.Str.Parse.{digits_value}
use Rattle.time_show.specs.Fields.{is_space, fields_of, onto_numbers}

-- a list has one part if nothing is found
one_part : (p : ℕ → Bool) (xs : List ℕ) → length xs ≤ position_or_len p xs → slice_split p xs ≡ xs ∷ []
one_part p [] h = refl
one_part p (x ∷ xs) h = grind (arith, one_part p xs)

-- the first field ends at the first space
pub fields_of-space : (line : List ℕ) (end : ℕ) → Some end ≡ position is_space line
    → fields_of line ≡ take end line ∷ fields_of (drop (end + 1) line)
fields_of-space line end e = elim (cases_lt (position_or_len is_space line) (length line)) [
  | inl inside ↦ let same : end ≡ position_or_len is_space line = grind arith in
      rw same (slice_split_first is_space line 0 inside)
  | inr past ↦ absurd (grind arith)
]

-- a line with no space is one field
pub fields_of-one : (line : List ℕ) → None ≡ position is_space line → fields_of line ≡ line ∷ []
fields_of-one line e = one_part is_space line (grind arith)

-- the test of digits holds exactly for digits
tells_natural : IsDigitsTest (λ ds. list_all is_ascii_digit ds ≡ true)
tells_natural = search rules

-- digits have the value of their numeral
digits_are_numerals : IsNumeralModel (λ ds. list_all is_ascii_digit ds ≡ true) (digits_value 10)
digits_are_numerals = numerals_by_value _ tells_natural

-- one more digit after others: ten times the value so far, and the digit, by its code from that of `0`, which is 48
pub record DigitMore (ds : List ℕ) (i : ℕ) : Type 0 where
  pub digits : list_all is_ascii_digit (take (i + 1) ds) ≡ true
  pub is_digit : 48 ≤ get_or ds i 0
  pub value : digits_value 10 (take (i + 1) ds) ≡ digits_value 10 (take i ds) * 10 + (get_or ds i 0 - 48)
  pub small : digits_value 10 (take (i + 1) ds) < 10 ^ 9

-- the codes of digits
digit-range : (b : ℕ) → is_ascii_digit b ≡ true → IsInRange 48 57 b
digit-range b h = grind arith

-- each place where a digit follows digits has one more
pub digit_more : (ds : List ℕ) (i : ℕ) → i < 9 → list_all is_ascii_digit (take i ds) ≡ true → i < length ds →
    is_ascii_digit (get_or ds i 0) ≡ true → DigitMore ds i
digit_more ds i short before lt here =
    let all : list_all is_ascii_digit (take (i + 1) ds) ≡ true = list_all_more is_ascii_digit ds i 0 lt
    ∙ rw (before, here) refl in
    let range : IsInRange 48 57 (get_or ds i 0) = digit-range _ here in
    let is : digit_value (get_or ds i 0) + 48 ≡ get_or ds i 0 = digit_value_digit (get_or ds i 0) range in
    let more = digits_value_more 10 ds i lt in
    record {
      digits = all;
      is_digit = omega arith;
      value = omega arith;
      small = digits_value_short digits_are_numerals (take (i + 1) ds) 9 all (omega (arith, length-take (i + 1) ds));
    }

-- first digits, nine at most, have a value of nine digits
pub digits_value-small : (ds : List ℕ) (i : ℕ) → length ds ≤ 9 → list_all is_ascii_digit (take i ds) ≡ true
    → digits_value 10 (take i ds) < 10 ^ 9
digits_value-small ds i short all =
    digits_value_short digits_are_numerals (take i ds) 9 all (omega (arith, length-take i ds))

-- some numbers, and those that the other fields spell
abbrev pub front_and : List ℤ → Option (List ℤ) → Option (List ℤ)
front_and front numbers = option_map (λ others. front ++ others) numbers

-- one more number is taken
front_and-more : (all rest more : Option (List ℤ)) (front : List ℤ) (n : ℤ) → all ≡ front_and front rest
    → rest ≡ onto_numbers (Some n) more → all ≡ front_and (front ++ n ∷ []) more
front_and-more all rest None front n e next = rw (e, next) refl
front_and-more all rest (Some others) front n e next = grind (arith, common_steps)

-- one more number is put behind those that were taken
pub front_and-set : (all rest more : Option (List ℤ)) (numbers : List ℤ) (i : ℕ) (n m : ℤ) → i < length numbers
    → m ≡ n → all ≡ front_and (take i numbers) rest → rest ≡ onto_numbers (Some n) more
    → all ≡ front_and (take (i + 1) (slice_set numbers i m)) more
front_and-set all rest more numbers i n m lt same e next =
    let front : take (i + 1) (slice_set numbers i m) ≡ take i numbers ++ n ∷ [] = grind (arith, common_steps, take_more) in
    rw front (front_and-more all rest more (take i numbers) n e next)
