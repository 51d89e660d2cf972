-- How long each kind of text is.
use Rattle.std.proofs.Common.{◌≡◌, ℕ, ◌+◌, ◌-◌, ◌^◌, ◌<◌, ◌≤◌, ℤ, pos, Bool, true, List, [], ◌++◌}
use Rattle.std.proofs.Common.{IsTrue, length, replicate, refl, sym, ◌∙◌, decimal, arith, length-append, append_assoc}
use Rattle.std.specs.List.{list_all}
use Rattle.std.specs.Prelude.{slice_index_or, nat_lt, int_lt, unsigned_abs, ◌||◌}
use Rattle.std.proofs.lemmas.Bool.{and_parts, le-ltb, leb-true, lt-ltb}
use Rattle.std.proofs.lemmas.Fmt.{length-decimal-le}
use Rattle.std.proofs.lemmas.Int.{ints}
use Rattle.std.proofs.lemmas.List.{length-replicate}
use Rattle.std.proofs.Math.ListN.{length-take}
use Rattle.time_below.specs.declared.format_description.modifier.Padding.{Padding}
use Rattle.time_below.specs.declared.format_description.modifier.Padding.TheVariants as padding
use Rattle.time_digits.specs.Digits.{padded, zero_padded}
use Rattle.time_digits.proofs.DigitLemmas.{decimal_longer, padded_whole}
use Rattle.time_digits.proofs.LengthLemmas.{length-padded, length-padded-le}
use Rattle.time_fmt.specs.DateText.{month_name, weekday_name, short_name, indexed}
use Rattle.time_fmt.specs.Text.{padded_text, sign_text}
use Rattle.time_fmt.proofs.EndLemmas.{whole_text}
use Rattle.std.proofs.lemmas.Grind.{common_steps}

-- ---- numbers

-- a number has no more bytes than its places and its digits
pub length-padded_text : (p : Padding) (places width n : ℕ) → places ≤ width → length (decimal n) ≤ width
    → length (padded_text p places n) ≤ width
length-padded_text p places width n h k = grind (arith, common_steps, length-padded-le)

-- a number below 100 fits two places
pub two_places : (p : Padding) (n : ℕ) → n < 100 → length (padded_text p 2 n) ≤ 2
two_places p n h =
    length-padded_text p 2 2 n (omega arith) (length-decimal-le 2 n (omega arith) (omega arith) (omega arith))

-- a number below 1,000 fits three places
pub three_places : (p : Padding) (n : ℕ) → n < 1000 → length (padded_text p 3 n) ≤ 3
three_places p n h =
    length-padded_text p 3 3 n (omega arith) (length-decimal-le 3 n (omega arith) (omega arith) (omega arith))

-- zeros and then the digits, in this many places
pub places_of : (places n : ℕ) → length (decimal n) ≤ places → length (zero_padded places n) ≡ places
places_of places n h = length-padded 48 places n h

-- what precedes the digits are zeros
pub zero_padded_is_zeros : (places n : ℕ)
    → zero_padded places n ≡ replicate (places - length (decimal n)) 48 ++ decimal n
unfolding padded
zero_padded_is_zeros places n = refl

-- zeros are as many as were chosen
pub length-zeros : (n : ℕ) → length (replicate {A = ℕ} n 48) ≡ n
length-zeros n = length-replicate {A = ℕ} n 48

pub ruleset zeros_before = (places_of, zero_padded_is_zeros, length-zeros, append_assoc)

-- digits that fill their places stand alone
pub no_padding : (p : Padding) (places n : ℕ) → places ≤ length (decimal n) → padded_text p places n ≡ decimal n
no_padding p places n h = grind (arith, common_steps, padded_whole)

-- a year from 10,000 on, and a century from 100 on
pub whole_year : (p : Padding) (n : ℕ) → 10_000 ≤ n → n < 2 ^ 64 → padded_text p 4 n ≡ zero_padded 4 n
whole_year p n low high =
    let long = decimal_longer 4 n low high in
    no_padding p 4 n (omega arith) ∙ sym (padded_whole 48 4 n (omega arith))

pub whole_century : (p : Padding) (n : ℕ) → 100 ≤ n → n < 2 ^ 64 → padded_text p 2 n ≡ decimal n
whole_century p n low high = let long = decimal_longer 2 n low high in no_padding p 2 n (omega arith)

-- a year of four digits has the sign that is wanted
pub small_year : (is_wanted : Bool) (year : ℤ) → unsigned_abs year ≤ 9_999
    → (is_wanted || int_lt (pos 9_999) year) ≡ is_wanted
small_year is_wanted year h = grind (arith, common_steps, ints)

-- a century of two digits has the sign that is wanted, and a longer one has a sign
pub small_century : (is_wanted : Bool) (n : ℕ) → n < 100 → (is_wanted || nat_lt 99 n) ≡ is_wanted
small_century is_wanted n h = grind (arith, common_steps, le-ltb)

pub great_century : (is_wanted : Bool) (n : ℕ) → 100 ≤ n → (is_wanted || nat_lt 99 n) ≡ true
great_century is_wanted n h = grind (arith, common_steps, lt-ltb)

-- ---- numbers after their signs

-- a sign has one byte at most
pub length-sign_text : (is_negative is_wanted : Bool) → length (sign_text is_negative is_wanted) ≤ 1
length-sign_text is_negative is_wanted = grind (arith, common_steps)

-- one text after another
pub ruleset signed_parts = (length-append, append_assoc)

-- a sign and then this many digits
signed_within : (is_negative is_wanted : Bool) (p : Padding) (places most n : ℕ) → places ≤ most → 0 < most
    → n < 10 ^ most → n < 2 ^ 64
    → length (sign_text is_negative is_wanted ++ padded_text p places n) ≤ most + 1
signed_within is_negative is_wanted p places most n h some below fits = omega (
  arith,
  length-append (sign_text is_negative is_wanted) (padded_text p places n),
  length-sign_text is_negative is_wanted,
  length-padded_text p places most n h (length-decimal-le most n some below fits),
)

-- a century or an hour of an offset: two digits, and at most four
pub signed_two : (is_negative is_wanted : Bool) (p : Padding) (n : ℕ) → n < 100
    → length (sign_text is_negative is_wanted ++ padded_text p 2 n) ≤ 3
signed_two is_negative is_wanted p n h = grind (arith, signed_within)

pub signed_two_to_four : (is_negative is_wanted : Bool) (p : Padding) (n : ℕ) → n < 10_000
    → length (sign_text is_negative is_wanted ++ padded_text p 2 n) ≤ 5
signed_two_to_four is_negative is_wanted p n h =
    signed_within is_negative is_wanted p 2 4 n (omega arith) (omega arith) (omega arith) (omega arith)

-- a year: four digits, and at most six
pub signed_four : (is_negative is_wanted : Bool) (p : Padding) (n : ℕ) → n < 10_000
    → length (sign_text is_negative is_wanted ++ padded_text p 4 n) ≤ 5
signed_four is_negative is_wanted p n h = grind (arith, signed_within)

pub signed_four_to_six : (is_negative is_wanted : Bool) (p : Padding) (n : ℕ) → n < 1_000_000
    → length (sign_text is_negative is_wanted ++ padded_text p 4 n) ≤ 7
signed_four_to_six is_negative is_wanted p n h =
    signed_within is_negative is_wanted p 4 6 n (omega arith) (omega arith) (omega arith) (omega arith)

-- a number of seconds, and of milliseconds
pub signed_seconds : (is_negative is_wanted : Bool) (n : ℕ) → n < 100_000_000_000_000
    → length (sign_text is_negative is_wanted ++ decimal n) ≤ 15
signed_seconds is_negative is_wanted n h =
    signed_within is_negative is_wanted padding.None 1 14 n (omega arith) (omega arith) (omega arith) (omega arith)

pub signed_milliseconds : (is_negative is_wanted : Bool) (n : ℕ) → n < 100_000_000_000_000_000
    → length (sign_text is_negative is_wanted ++ decimal n) ≤ 18
signed_milliseconds is_negative is_wanted n h =
    signed_within is_negative is_wanted padding.None 1 17 n (omega arith) (omega arith) (omega arith) (omega arith)

-- ---- names, and the digit of a weekday

-- a test that no bytes and all names of a list pass is passed by the one at any place
pub passes_at : (test : List ℕ → Bool) (names : List (List ℕ)) (i : ℕ) → IsTrue (test []) → IsTrue (list_all test names)
    → IsTrue (test (slice_index_or names i []))
passes_at test names i h k = grind (arith, common_steps, and_parts)

-- no name of a month is longer than September
pub length-month_name : (n : ℕ) → length (month_name n) ≤ 9
length-month_name n = grind (arith, leb-true, passes_at)

-- no name of a weekday is longer than Wednesday
pub length-weekday_name : (n : ℕ) → length (weekday_name n) ≤ 9
length-weekday_name n = grind (arith, leb-true, passes_at)

-- a short name has three letters at most
pub length-short_name : (name : List ℕ) → length (short_name name) ≤ 3
length-short_name name = omega (arith, length-take 3 name)

-- a number of days below seven, counted from 0 or from 1 on
pub length-indexed : (one_indexed : Bool) (days : ℕ) → days ≤ 6 → length (decimal (indexed one_indexed days)) ≤ 1
length-indexed one_indexed days h = grind (arith, common_steps, length-decimal-le)

-- ---- what a writer of a component cites

pub ruleset text_lengths = (
  two_places,
  three_places,
  length-month_name,
  length-weekday_name,
  length-short_name,
  length-indexed,
  whole_text,
)

pub ruleset signed_lengths = (
  signed_two,
  signed_two_to_four,
  signed_four,
  signed_four_to_six,
  signed_seconds,
  signed_milliseconds,
  whole_text,
)

-- the length of a century, whose first digits may be of two or four
pub ruleset century_lengths = (signed_lengths, small_century, great_century, whole_century)
