-- Fractions without a zero at their end: the shortest is the only one, and where digits end in a text.
use Rattle.std.proofs.Common.{◌≡◌, ◌≢◌, ℕ, ◌+◌, ◌-◌, ◌^◌, ◌<◌, ◌≤◌, List, [], ◌∷◌, ◌++◌, length, length-append}
use Rattle.std.proofs.Common.{append_assoc, get_or, refl, sym, ap, ap₂, subst, ◌∙◌, arith}
use Rattle.std.specs.Prelude.{codes}
use Rattle.std.specs.Int.{IsInRange}
use Rattle.std.specs.Str.Parse.{AllDigits, digits_value}
use Rattle.std.proofs.lemmas.Bool.{cases_lt}
use Rattle.std.proofs.lemmas.List.{take_more, take_all, get_or_append_left, get_or-append_right, get_or-replicate}
use Rattle.std.proofs.lemmas.Str.Parse.{digit_from_value}
use Rattle.time_digits.specs.Digits.{fixed}
use Rattle.time_digits.specs.Fraction.{trimmed_fraction, IsFraction, IsTrimmedFraction}
use Rattle.time_digits.proofs.FractionLemmas.{trimmed_fraction_is, only_trimmed_fraction}
use Rattle.time_digits.proofs.ValueLemmas.{fixed_value}
use Rattle.std.proofs.lemmas.Grind.{common_steps}

-- a text whose last byte is `0`
abbrev pub EndsInZero : List ℕ → Type 0
EndsInZero text = (front : List ℕ) × (text ≡ front ++ codes "0")

-- a text whose last byte is `0` ends in `0`
ends_at : (text : List ℕ) → 1 ≤ length text → get_or text (length text - 1) 0 ≡ 48 → EndsInZero text
ends_at text some e = grind (arith, common_steps, take_all, take_more)

-- the front of digits is digits
pub digits_front : (a b : List ℕ) → AllDigits 10 (a ++ b) → AllDigits 10 a
digits_front [] b h = tt
digits_front (c ∷ cs) b h = (h.0, digits_front cs b h.1)

-- digits that are longer than others of the same fraction end in `0`
zero_at : {n : ℕ} (text other : List ℕ) → IsFraction text n → IsFraction other n → length other < length text
    → get_or text (length text - 1) 0 ≡ 48
zero_at text other f g longer = grind (arith, get_or_append_left, get_or-append_right, get_or-replicate)

-- a fraction that does not end in `0` is the shortest
pub unended_is_trimmed : {n : ℕ} (text : List ℕ) → IsFraction text n → ¬ EndsInZero text
    → text ≡ trimmed_fraction n
unended_is_trimmed text f unended = grind (arith, only_trimmed_fraction, ends_at, zero_at, cases_lt)

-- a text without one zero at its end is the same fraction
fraction_one_zero_less : {n : ℕ} (front : List ℕ) → 1 ≤ length front → IsFraction (front ++ codes "0") n → IsFraction front n
fraction_one_zero_less front some f = grind (arith, length-append, digits_front, append_assoc)

-- the fraction `0` alone is zero
lone_zero : (n : ℕ) → n < 10 ^ 9 → IsFraction (codes "0") n → n ≡ 0
lone_zero n h f = sym (fixed_value 9 n h) ∙ sym (ap (digits_value 10) f.filled)

-- the shortest fraction of more than zero does not end in `0`, after any front
not_ended : {n : ℕ} (text front : List ℕ) → text ≡ front ++ codes "0" → IsTrimmedFraction text n → 0 < n
    → n < 10 ^ 9 → ⊥
not_ended text [] e t some small = grind (arith, common_steps, lone_zero)
not_ended {n} text (d ∷ ds) e t some small =
    let front = d ∷ ds in
    let long : length (front ++ codes "0") ≡ length front + 1 = length-append front (codes "0") in
    let less = t.shortest front (fraction_one_zero_less front (omega arith) (subst (λ ds. IsFraction ds n) e t.fraction)) in
    omega (arith, ap length e, less, long)

-- the trimmed fraction of more than zero does not end in `0`
pub trimmed_unended : (n : ℕ) → 0 < n → n < 10 ^ 9 → ¬ EndsInZero (trimmed_fraction n)
trimmed_unended n some small (front, e) = not_ended (trimmed_fraction n) front e (trimmed_fraction_is n) some small

-- the shortest fraction of zero is `0`
pub trimmed_zero : trimmed_fraction 0 ≡ codes "0"
unfolding trimmed_fraction fixed
trimmed_zero = refl

-- ---- where digits end

-- a text that begins with no digit and no point
pub record IsAfterFraction (text : List ℕ) : Type 0 where
  pub first : ℕ
  pub rest : List ℕ
  pub is : text ≡ first ∷ rest
  pub no_digit : ¬ IsInRange 48 57 first
  pub no_point : first ≢ 46

-- digits end where no digit follows
pub digits_end : (a b x y : List ℕ) → AllDigits 10 a → AllDigits 10 b → IsAfterFraction x → IsAfterFraction y
    → a ++ x ≡ b ++ y → a ≡ b
digits_end [] [] x y p q h k e = refl
digits_end [] (c ∷ cs) x y p q h k e = grind (arith, digit_from_value)
digits_end (c ∷ cs) [] x y p q h k e = grind (arith, digit_from_value)
digits_end (c ∷ cs) (d ∷ ds) x y p q h k e =
    let first : c ≡ d = cc in
    let rest : cs ++ x ≡ ds ++ y = cc in
    ap₂ (λ b bs. b ∷ bs) first (digits_end cs ds x y p.1 q.1 h k rest)
