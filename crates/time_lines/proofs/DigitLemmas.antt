-- The digits that a text begins with, and the number that they spell.
use Rattle.std.proofs.Common.{ℕ, zero, suc, sym, ◌≡◌, ◌+◌, ◌-◌, ◌*◌, ◌^◌, ◌<◌, ◌≤◌, ◌⊎◌, Bool, true, false, List, [], ◌∷◌, length, take, min, get_or, inl, inr, refl, ap, subst, ◌∙◌, arith, rules}
use Rattle.std.proofs.lemmas.Int.Digits.{digits_value_more}
use Rattle.std.proofs.lemmas.List.{length-take, take_min}
use Rattle.std.proofs.lemmas.List.Elements.{All-get_or, All-take}
use Rattle.std.proofs.lemmas.List.Folds.{list_all_more}
use Rattle.std.proofs.lemmas.List.Sums.{AllPass-from_list_all, list_all-from_AllPass}
use Rattle.std.proofs.lemmas.Str.{digit_value_digit}
use Rattle.std.proofs.lemmas.Str.Parse.{IsDigitsTest, IsNumeralModel, numerals_by_value, digits_value_short}
use Rattle.std.specs.Char.{is_ascii_digit, digit_value}
use Rattle.std.specs.Int.{IsInRange}
use Rattle.std.specs.List.{list_all}
use Rattle.std.specs.Str.Parse.{digits_value}
use Rattle.time_lines.specs.Number.{decimals_value, digit_count, digits_of}
use Rattle.std.proofs.lemmas.Nat.{pow-add}
use Rattle.std.proofs.Math.Nat.{mul-lt-mul_of_pos_right}

-- the test of digits holds exactly for digits
tells_natural : IsDigitsTest (λ ds. list_all is_ascii_digit ds ≡ true)
tells_natural = search rules

-- digits have the value of their numeral
digits_are_numerals : IsNumeralModel (λ ds. list_all is_ascii_digit ds ≡ true) (digits_value 10)
digits_are_numerals = numerals_by_value _ tells_natural

-- so many digits spell a number below that power of ten
pub digits_value-below : (ds : List ℕ) (k : ℕ) → list_all is_ascii_digit ds ≡ true → length ds ≤ k → digits_value 10 ds < 10 ^ k
digits_value-below ds k all short = digits_value_short digits_are_numerals ds k all short

-- the codes of digits
digit-range : (b : ℕ) → is_ascii_digit b ≡ true → IsInRange 48 57 b
digit-range b h = grind arith

-- one more digit after others: ten times the value so far, and the digit, by its code from that of `0`, which is 48
pub record DigitMore (ds : List ℕ) (i : ℕ) : Type 0 where
  pub digits : list_all is_ascii_digit (take (i + 1) ds) ≡ true
  pub is_digit : 48 ≤ get_or ds i 0
  pub value : digits_value 10 (take (i + 1) ds) ≡ digits_value 10 (take i ds) * 10 + (get_or ds i 0 - 48)
  pub small : i + 1 ≤ 19 → digits_value 10 (take (i + 1) ds) < 10 ^ 19

-- each place where a digit follows digits has one more
pub digit_more : (ds : List ℕ) (i : ℕ) → list_all is_ascii_digit (take i ds) ≡ true → i < length ds →
    is_ascii_digit (get_or ds i 0) ≡ true → DigitMore ds i
digit_more ds i before lt here =
    let all : list_all is_ascii_digit (take (i + 1) ds) ≡ true = list_all_more is_ascii_digit ds i 0 lt
    ∙ rw (before, here) refl in
    let range : IsInRange 48 57 (get_or ds i 0) = digit-range _ here in
    let is : digit_value (get_or ds i 0) + 48 ≡ get_or ds i 0 = digit_value_digit (get_or ds i 0) range in
    let more = digits_value_more 10 ds i lt in
    record {
      digits = all;
      is_digit = omega arith;
      value = omega arith;
      small = λ short. digits_value-below (take (i + 1) ds) 19 all (omega (arith, length-take (i + 1) ds));
    }

pub all-take : (n : ℕ) (text : List ℕ) → list_all is_ascii_digit text ≡ true → list_all is_ascii_digit (take n text) ≡ true
all-take n text all =
    list_all-from_AllPass is_ascii_digit (take n text)
    (All-take (λ x. is_ascii_digit x ≡ true) n text (AllPass-from_list_all is_ascii_digit text all))

-- each place of digits has one more than those before it
pub one_more_digit : (ds : List ℕ) (i : ℕ) → list_all is_ascii_digit ds ≡ true → i < length ds → DigitMore ds i
one_more_digit ds i all lt =
    digit_more ds i (all-take i ds all) lt
    (All-get_or (λ x. is_ascii_digit x ≡ true) ds i 0 lt (AllPass-from_list_all is_ascii_digit ds all))

bool_tells : (b : Bool) → (b ≡ true) ⊎ (b ≡ false)
bool_tells true = inl refl
bool_tells false = inr refl

one_more : (n : ℕ) → 1 + n ≡ suc n
one_more n = omega arith

-- the digits with which a text begins are digits
pub digits_of-all : (text : List ℕ) → list_all is_ascii_digit (digits_of text) ≡ true
digits_of-all [] = refl
digits_of-all (b ∷ text) = elim (bool_tells (is_ascii_digit b)) [
  | inl t ↦ rw (t, one_more (digit_count text)) (rw (t, digits_of-all text) refl)
  | inr t ↦ rw t refl
]

pub ten_pos : (k : ℕ) → 0 < 10 ^ k
ten_pos k = digits_value-below [] k refl (omega arith)

le-mul : (a b : ℕ) → 0 < b → a ≤ a * b
le-mul a zero some = absurd (omega (arith, some))
le-mul a (suc b) some = omega arith

product_below : (value count len : ℕ) → value < 10 ^ len → len ≤ count → value * 10 ^ (count - len) < 10 ^ count
product_below value count len below le =
    let whole : len + (count - len) ≡ count = omega arith in
    subst (λ k. value * 10 ^ (count - len) < 10 ^ k) whole
    (rw (pow-add 10 len (count - len)) (mul-lt-mul_of_pos_right below (ten_pos (count - len))))

-- the first ten powers are at most the tenth
pub ten_growing : (k : ℕ) → k ≤ 9 → 10 ^ k ≤ 1_000_000_000
ten_growing k le =
    let whole : k + (9 - k) ≡ 9 = omega arith in
    let e : 10 ^ k * 10 ^ (9 - k) ≡ 1_000_000_000 = sym (pow-add 10 k (9 - k)) ∙ ap (λ n. 10 ^ n) whole in
    subst (λ n. 10 ^ k ≤ n) e (le-mul (10 ^ k) (10 ^ (9 - k)) (ten_pos (9 - k)))

-- some first decimals, and zeros for those that are missing
pub decimals_are : (count m value power : ℕ) (ds : List ℕ) → count ≤ 9 → list_all is_ascii_digit ds ≡ true
    → m ≡ min count (length ds) → value ≡ digits_value 10 (take m ds) → power ≡ 10 ^ (count - length (take m ds))
    → (value * power ≡ decimals_value count ds) × (value * power < 10 ^ count)
decimals_are count m value power ds le all is_min spelled scale =
    let same : take m ds ≡ take count ds = rw is_min (take_min count ds) in
    let kept : list_all is_ascii_digit (take count ds) ≡ true = all-take count ds all in
    let short : length (take count ds) ≤ count = omega (arith, length-take count ds) in
    let is : value ≡ digits_value 10 (take count ds) = spelled ∙ ap (λ t. digits_value 10 t) same in
    let to : power ≡ 10 ^ (count - length (take count ds)) = scale ∙ ap (λ t. 10 ^ (count - length t)) same in (
      rw (is, to) refl,
      rw (is, to)
          (product_below (digits_value 10 (take count ds)) count (length (take count ds))
          (digits_value-below (take count ds) (length (take count ds)) kept (omega arith)) short),
    )
