-- Dates are in the order of their day numbers.
use Rattle.std.proofs.Common.{◌≡◌, ◌+◌, ◌<◌, ◌≤◌, refl, sym, ap, ◌∙◌, arith, ℤ, pos, ◌+ℤ◌, ◌<ℤ◌, unsigned_abs}
use Rattle.std.proofs.lemmas.Cmp.{by_ranked, ranked, int_ranked}
use Rattle.std.proofs.lemmas.Int.{ints}
use Rattle.std.specs.declared.cmp.Ordering.{Ordering}
use Rattle.std.specs.declared.cmp.Ordering.TheVariants.{Less, Equal, Greater}
use Rattle.std.specs.Ordering.{nat_cmp, int_cmp, ordering_then}
use Rattle.time_below.specs.Calendar.{OrdinalDate, IsDate, day_number, days_before_year, greatest_year}
use Rattle.time_below.proofs.CalendarLemmas.{day_number_from_start}
use Rattle.time_below.proofs.YearLemmas.{years_from_start, days_in_year_at, days_of_years_grow}

-- integers compare as they are ordered
int_less : (x y : ℤ) → x <ℤ y → int_cmp x y ≡ Less
int_less x y h = grind (arith, ints)

int_equal : (x y : ℤ) → x ≡ y → int_cmp x y ≡ Equal
int_equal x y h = grind (arith, ints)

int_greater : (x y : ℤ) → y <ℤ x → int_cmp x y ≡ Greater
int_greater x y h = grind (arith, ints)

-- a date of an earlier year has a lower number
earlier_year : (d e : OrdinalDate) → IsDate d → IsDate e → d.year <ℤ e.year → day_number d <ℤ day_number e
earlier_year d e h k less =
    let m = unsigned_abs (d.year +ℤ pos greatest_year) in
    let n = unsigned_abs (e.year +ℤ pos greatest_year) in
    let p = years_from_start d.year h.0 in
    let q = years_from_start e.year k.0 in
    let fewer : m + 1 ≤ n = omega (arith, ints) in
    let length = days_in_year_at d.year m p in
    let grown = days_of_years_grow (m + 1) n fewer in
    let here = day_number_from_start d m p h.1.0 in
    let there = day_number_from_start e n q k.1.0 in
    omega (arith, ints, length, grown, here, there)

-- an earlier day of a year has a lower number
earlier_in_year : (d e : OrdinalDate) → d.year ≡ e.year → d.ordinal < e.ordinal → day_number d <ℤ day_number e
earlier_in_year d e same less = let before = ap days_before_year same in omega (arith, ints)

-- one day of one year has one number
same_in_year : (d e : OrdinalDate) → d.year ≡ e.year → d.ordinal ≡ e.ordinal → day_number d ≡ day_number e
same_in_year d e same equal = let before = ap days_before_year same in omega (arith, ints)

-- days of one year compare as their numbers
in_year_cmp : (d e : OrdinalDate) → d.year ≡ e.year
    → nat_cmp d.ordinal e.ordinal ≡ int_cmp (day_number d) (day_number e)
in_year_cmp d e same =
    by_ranked (d.ordinal < e.ordinal) (d.ordinal ≡ e.ordinal) (e.ordinal < d.ordinal) (nat_cmp d.ordinal e.ordinal)
    (ranked d.ordinal e.ordinal (nat_cmp d.ordinal e.ordinal) refl)
    (λ o less. o ∙ sym (int_less _ _ (earlier_in_year d e same less)))
    (λ o equal. o ∙ sym (int_equal _ _ (same_in_year d e same equal)))
    (λ o greater. o ∙ sym (int_greater _ _ (earlier_in_year e d (sym same) greater)))

-- dates compare by the year and then the day of the year, as by their numbers
pub date_cmp : (d e : OrdinalDate) → IsDate d → IsDate e
    → ordering_then (int_cmp d.year e.year) (nat_cmp d.ordinal e.ordinal) ≡ int_cmp (day_number d) (day_number e)
date_cmp d e h k =
    let rest = λ (o : Ordering). ordering_then o (nat_cmp d.ordinal e.ordinal) in
    by_ranked (d.year <ℤ e.year) (d.year ≡ e.year) (e.year <ℤ d.year) (int_cmp d.year e.year)
    (int_ranked d.year e.year (int_cmp d.year e.year) refl)
    (λ o less. ap rest o ∙ sym (int_less _ _ (earlier_year d e h k less)))
    (λ o equal. ap rest o ∙ in_year_cmp d e equal)
    (λ o greater. ap rest o ∙ sym (int_greater _ _ (earlier_year e d k h greater)))
