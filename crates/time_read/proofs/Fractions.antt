-- The nanosecond of the digits that were read.
use Rattle.std.proofs.Common.{◌≡◌, ℕ, zero, suc, ◌+◌, ◌-◌, ◌*◌, ◌^◌, ◌<◌, ◌≤◌, List, [], ◌∷◌, ◌++◌, length, get_or, drop, take, replicate}
use Rattle.std.proofs.Common.{refl, sym, ap, ap₂, subst, ◌∙◌, arith, ◌⊎◌, inl, inr, ⊎_elim, true, false, append_assoc, length-append}
use Rattle.std.specs.Int.{IsInRange}
use Rattle.std.specs.Str.Parse.{AllDigits, digits_value, digits_value_after}
use Rattle.std.proofs.lemmas.Str.Parse.{digit_at, digit_from_value}
use Rattle.std.proofs.lemmas.Int.Digits.{digits_value-lt, digits_value_more}
use Rattle.std.proofs.lemmas.Str.{digit_value_digit}
use Rattle.std.proofs.lemmas.List.{take-append-drop, take-take, length-take-le, length-drop, drop-take, drop_more, take_rest}
use Rattle.std.proofs.Math.Nat.{pow-suc, pow-le-pow_right}
use Rattle.std.proofs.lemmas.Bool.{cases_lt}
use Rattle.std.proofs.lemmas.Bool.Decides.{nat_tests}
use Rattle.std.specs.Prelude.{◌==◌}
use Rattle.time_read.specs.Fault.{BeginsOffset}
use Rattle.time_below.proofs.MonthLemmas.{same_below}
use Rattle.time_known.specs.Rfc3339Grammar.{TimeSecfrac}
use Rattle.time_known.proofs.Rules.Texts.{digits_below}
use Rattle.time_read.specs.Shapes.{AtFraction, FirstDigits, Skipped, after_fraction, next_after}
use Rattle.time_read.specs.declared.fault.Expected.TheVariants as expected
use Rattle.time_read.specs.declared.decimals.TheConstants.{POWERS}
use Rattle.time_read.specs.declared.fault.Profile.{Profile}
use Rattle.time_read.specs.declared.fault.Profile.TheVariants as profile
use Rattle.time_read.proofs.Tails.{fraction_of, cut_secfrac, digits_join, opens_in_fraction, opens_after_fraction}

-- zeros at the end multiply the value by ten each
value_zeros : (ds : List ℕ) (n m : ℕ) → digits_value_after 10 n (ds ++ replicate m 48) ≡ digits_value_after 10 n ds * 10 ^ m
value_zeros [] n zero = omega arith
value_zeros [] n (suc m) =
    let p : 10 ^ suc m ≡ 10 ^ m * 10 = pow-suc 10 m in
    value_zeros [] (n * 10 + 0) m ∙ zero_step n (10 ^ m) (10 ^ suc m) p where
      zero_step : (n q p : ℕ) → p ≡ q * 10 → (n * 10 + 0) * q ≡ n * p
      zero_step n q p e = rw e (grind arith)
value_zeros (c ∷ cs) n m = value_zeros cs _ m

pub power_is : (k : ℕ) → k < 10 → get_or POWERS k 0 ≡ 10 ^ k
power_is = same_below (λ k. get_or POWERS k 0) (λ k. 10 ^ k) 10 refl

-- the nanosecond of digits, filled with zeros
pub filled : (ds : List ℕ) → digits_value 10 ds * 10 ^ (9 - length ds) ≡ digits_value 10 (ds ++ replicate (9 - length ds) 48)
filled ds = sym (value_zeros ds 0 (9 - length ds))

pub secfrac : (ds : List ℕ) → AllDigits 10 ds → IsInRange 1 9 (length ds)
    → TimeSecfrac (digits_value 10 ds * 10 ^ (9 - length ds)) (46 ∷ ds)
secfrac ds h k = subst (λ n. TimeSecfrac n (46 ∷ ds)) (sym (filled ds)) (fraction_of ds h k)

pub below : (ds : List ℕ) → AllDigits 10 ds → IsInRange 1 9 (length ds) → digits_value 10 ds * 10 ^ (9 - length ds) < 10 ^ 9
below ds h k = digits_below (secfrac ds h k).filled

-- the value of few digits is small
pub few_digits : (ds : List ℕ) → AllDigits 10 ds → length ds < 9 → digits_value 10 ds < 100_000_000
few_digits ds h k =
    let small = digits_value-lt 10 ds h in
    let power : 10 ^ length ds ≤ 10 ^ 8 = pow-le-pow_right {n = 10} (omega arith) {i = length ds} {j = 8} (omega arith) in
    omega arith

-- some first of all digits are digits
pub digits-take : (k : ℕ) (ds : List ℕ) → AllDigits 10 ds → AllDigits 10 (take k ds)
digits-take zero ds h = tt
digits-take (suc k) [] h = tt
digits-take (suc k) (d ∷ ds) h = (h.0, digits-take k ds h.1)

-- one more of some digits, and the value of those before it if there are fewer than nine
pub record DigitNext (ds : List ℕ) (i : ℕ) : Type 0 where
  pub digit : IsInRange 48 57 (get_or ds i 0)
  pub value : digits_value 10 (take (i + 1) ds) ≡ digits_value 10 (take i ds) * 10 + (get_or ds i 0 - 48)
  pub small : i < 9 → digits_value 10 (take i ds) < 100_000_000

pub digit_next : (ds : List ℕ) (i : ℕ) → AllDigits 10 ds → i < length ds → DigitNext ds i
digit_next ds i all lt =
    let range = digit_at ds i all lt in
    let is = digit_value_digit (get_or ds i 0) range in
    let more = digits_value_more 10 ds i lt in
    record {
      digit = range;
      value = omega arith;
      small = λ few. few_digits (take i ds) (digits-take i ds all) (omega (arith, few, length-take-le i ds (omega (arith, lt))));
    }

-- where the digits of the first nine bytes end, the digits end
ends_in_nine : (text : List ℕ) (k : ℕ) → FirstDigits (take 9 text) k → k < 9 → (b : ℕ) (after : List ℕ)
    → drop k text ≡ b ∷ after → ¬ IsInRange 48 57 b
ends_in_nine text k first lt b after here =
    let nine : k + (9 - k) ≡ 9 = omega arith in
    let cut : drop k (take 9 text) ≡ take (9 - k) (drop k text) =
    subst (λ n. drop k (take n text) ≡ take (9 - k) (drop k text)) nine (drop-take k (9 - k) text) in
    let more : 9 - k ≡ suc (8 - k) = omega arith in
    first.end lt b (take (8 - k) after) (cut ∙ ap₂ take more here)

-- the first digits of the first nine bytes are those of the text
pub first_in_nine : (text : List ℕ) (k : ℕ) → 9 ≤ length text → FirstDigits (take 9 text) k → FirstDigits text k
first_in_nine text k long first = record {
  most = first.most;
  within = omega (arith, first.most, long);
  digits = subst (AllDigits 10) (take-take k 9 text first.most) first.digits;
  end = ends_in_nine text k first;
}

-- digits, and no more of them
at_strict : (text ds : List ℕ) (count : ℕ) (rest : List ℕ) (n : ℕ) → AllDigits 10 ds → 1 ≤ count → count ≤ 9 → length ds ≡ count
    → text ≡ ds ++ rest → TimeSecfrac n (46 ∷ ds)
    → (count < 9 → (b : ℕ) (after : List ℕ) → rest ≡ b ∷ after → ¬ IsInRange 48 57 b)
    → AtFraction profile.Strict (46 ∷ text) n rest (next_after profile.Strict count)
at_strict text ds count rest n h some most long whole is end =
    ⊎_elim (λ (less : count < 9).
    let e : next_after profile.Strict count ≡ expected.DigitOrOffset profile.Strict = (let t : count == 9 ≡ false = grind (arith, nat_tests) in rw t refl) in
    subst (AtFraction profile.Strict (46 ∷ text) n rest) (sym e) (record {
      front = 46 ∷ ds;
      whole = ap (λ t. 46 ∷ t) whole;
      is = inr is;
      opens = λ b. opens_in_fraction profile.Strict ds b h (omega arith) (omega arith);
      next = λ b after f a. ⊎_elim (λ (d : IsInRange 48 57 b). absurd (end less b after f d))
          (λ (l : BeginsOffset profile.Strict b). l) a;
    }))
    (λ (full : 9 ≤ count).
    let nine : count ≡ 9 = omega arith in
    let e : next_after profile.Strict count ≡ expected.Offset profile.Strict = (let t : count == 9 ≡ true = grind (arith, nat_tests) in rw t refl) in
    subst (AtFraction profile.Strict (46 ∷ text) n rest) (sym e) (record {
      front = 46 ∷ ds;
      whole = ap (λ t. 46 ∷ t) whole;
      is = inr is;
      opens = λ b. opens_after_fraction ds b h (long ∙ nine);
      next = λ b after f a. a;
    }))
    (cases_lt count 9)

-- digits, and more of them that are cut
at_lenient : (text ds more : List ℕ) (count : ℕ) (rest : List ℕ) (n : ℕ) → AllDigits 10 ds → AllDigits 10 more → 1 ≤ count
    → length ds ≡ count → text ≡ ds ++ (more ++ rest) → TimeSecfrac n (46 ∷ ds) → (more ≡ []) ⊎ (length ds ≡ 9)
    → ((b : ℕ) (after : List ℕ) → rest ≡ b ∷ after → ¬ IsInRange 48 57 b)
    → AtFraction profile.Lenient (46 ∷ text) n rest (expected.DigitOrOffset profile.Lenient)
at_lenient text ds more count rest n h k some long whole is cut end = record {
  front = 46 ∷ (ds ++ more);
  whole = ap (λ t. 46 ∷ t) (whole ∙ sym (append_assoc ds more rest));
  is = cut_secfrac n ds more is k cut;
  opens = λ b. opens_in_fraction profile.Lenient (ds ++ more) b (digits_join ds more h k)
      (omega (arith, length-append ds more)) (omega (arith, length-append ds more));
  next = λ b after f a. ⊎_elim (λ (d : IsInRange 48 57 b). absurd (end b after f d))
      (λ (l : BeginsOffset profile.Lenient b). l) a;
}

at_fraction_of : (p : Profile) (text ds : List ℕ) (count : ℕ) (rest : List ℕ) → AllDigits 10 ds → 1 ≤ count → count ≤ 9
    → (n : ℕ) → length ds ≡ count → text ≡ ds ++ drop count text → TimeSecfrac n (46 ∷ ds)
    → (count < 9 → (b : ℕ) (after : List ℕ) → drop count text ≡ b ∷ after → ¬ IsInRange 48 57 b)
    → Skipped p (drop count text) rest → AtFraction p (46 ∷ text) n rest (next_after p count)
at_fraction_of profile.Strict text ds count rest h some most n long whole is end s =
    let same : drop count text ≡ rest = s.whole ∙ ap (λ t. t ++ rest) (s.strict refl) in
    at_strict text ds count rest n h some most long (whole ∙ ap (λ t. ds ++ t) same) is (λ less b after e. end less b after (same ∙ e))
at_fraction_of profile.Lenient text ds count rest h some most n long whole is end s =
    at_lenient text ds s.more count rest n h s.digits some long (whole ∙ ap (λ t. ds ++ t) s.whole) is
    (⊎_elim (λ (less : count < 9). inl (none s.more s.digits s.whole less)) (λ (full : 9 ≤ count). inr (omega arith)) (cases_lt count 9))
    (s.lenient refl) where
      none : (more : List ℕ) → AllDigits 10 more → drop count text ≡ more ++ rest → count < 9 → more ≡ []
      none [] k e less = refl
      none (c ∷ cs) k e less = absurd (end less c (cs ++ rest) e (digit_from_value c k.0))

-- a fraction of the first digits of a text
pub first_secfrac : (text : List ℕ) (count : ℕ) → FirstDigits text count → 1 ≤ count
    → TimeSecfrac (digits_value 10 (take count text) * 10 ^ (9 - count)) (46 ∷ take count text)
first_secfrac text count first some =
    let long : length (take count text) ≡ count = length-take-le count text first.within in
    subst (λ k. TimeSecfrac (digits_value 10 (take count text) * 10 ^ (9 - k)) (46 ∷ take count text)) long
    (secfrac (take count text) first.digits (omega arith, omega arith))

after_some : (p : Profile) (count : ℕ) → 1 ≤ count → after_fraction p count ≡ next_after p count
after_some p count some = let t : count == 0 ≡ false = grind (arith, nat_tests) in rw t refl

-- where the digits of a fraction end, of which some are cut
pub at_fraction : (p : Profile) (text : List ℕ) (count : ℕ) (rest : List ℕ) → FirstDigits text count → 1 ≤ count
    → Skipped p (drop count text) rest
    → AtFraction p (46 ∷ text) (digits_value 10 (take count text) * 10 ^ (9 - count)) rest (after_fraction p count)
at_fraction p text count rest first some skipped =
    subst (AtFraction p (46 ∷ text) (digits_value 10 (take count text) * 10 ^ (9 - count)) rest) (sym (after_some p count some))
    (at_fraction_of p text (take count text) count rest first.digits some first.most
    (digits_value 10 (take count text) * 10 ^ (9 - count)) (length-take-le count text first.within)
    (sym (take-append-drop count text)) (first_secfrac text count first some) first.end skipped)

-- the digits that were skipped
pub skipped : (text : List ℕ) (count : ℕ) → AllDigits 10 (take count text)
    → (count < length text → ¬ IsInRange 48 57 (get_or text count 0))
    → Skipped profile.Lenient text (take (length text - count) (drop count text))
skipped text count h none = rw (take_rest text count) (record {
  more = take count text;
  whole = sym (take-append-drop count text);
  digits = h;
  strict = λ (e : profile.Lenient ≡ profile.Strict). cc;
  lenient = λ _ b after e d.
      let long = ap length e in
      let short = length-drop count text in
      let within : count < length text = omega arith in
      let same : get_or text count 0 ≡ b = ap (λ t. get_or t 0 0) (sym (drop_more text count 0 within) ∙ e) in
      none within (subst (IsInRange 48 57) (sym same) d);
})

-- the product of the number and the power of ten that fills it
pub product : (text : List ℕ) (count n : ℕ) → n ≡ digits_value 10 (take count text) → FirstDigits text count
    → (n * get_or POWERS (9 - count) 0 ≡ digits_value 10 (take count text) * 10 ^ (9 - count))
    × (n * get_or POWERS (9 - count) 0 < 10 ^ 9)
product text count n e first =
    let power = power_is (9 - count) (omega (arith, first.most)) in
    let long : length (take count text) ≡ count = length-take-le count text first.within in
    let same : n * get_or POWERS (9 - count) 0 ≡ digits_value 10 (take count text) * 10 ^ (9 - count) =
    ap₂ (λ x y. x * y) e power in
    (same, subst (λ k. k < 10 ^ 9) (sym same) (small (take count text) count long first.digits first.most)) where
      small : (ds : List ℕ) (k : ℕ) → length ds ≡ k → AllDigits 10 ds → k ≤ 9 → digits_value 10 ds * 10 ^ (9 - k) < 10 ^ 9
      small [] k l h m = omega arith
      small (d ∷ ds) k l h m =
          subst (λ j. digits_value 10 (d ∷ ds) * 10 ^ (9 - j) < 10 ^ 9) l (below (d ∷ ds) h (omega arith, omega arith))
