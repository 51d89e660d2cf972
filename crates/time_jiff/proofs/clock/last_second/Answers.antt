use Rattle.std.proofs.Common.{◌≡◌, ℤ, pos, negsuc, neg_ℤ, ◌-ℤ◌, ◌≤ℤ◌, Some, to_z, of_z, w64, ap, subst, ◌∙◌, arith}
use Rattle.std.proofs.lemmas.Int.{ints}
use Rattle.std.specs.Int.{int_div_euclid}
use Rattle.jiff_core.specs.Timestamp.{IsTimestampNanos}
use Rattle.jiff_tz.specs.PosixRule.{transition_view}
use Rattle.jiff_tz.specs.Zone.{next_at}
use Rattle.time_jiff.specs.Clock.{nanosecond_of, until}
use Rattle.time_jiff.proofs.clock.last_second.Goals as goal

-- a moment of jiff is in no second before its first
first_is_least : (n s : ℤ) → IsTimestampNanos n → s ≡ int_div_euclid n (pos 1_000_000_000) → neg_ℤ (pos 377_705_023_201) ≤ℤ s
first_is_least (pos n) s h e = rw e (omega (arith, ints))
first_is_least (negsuc n) s h e = rw e (omega (arith, ints))

pub returns-in-Some : goal.returns-in-Some
returns-in-Some c =
    let s = c.floor_second.result in
    let least = first_is_least _ s c.in-Some.change.timestamp.in_range c.floor_second.ensures in
    let same : to_z w64 (of_z w64 (to_z w64 (of_z w64 s) -ℤ pos 1)) ≡ s -ℤ pos 1 = omega (arith, ints, least) in
    let at : c.instant.result.nanosecond ≡ nanosecond_of c.args.asked = omega (arith, ints, c.instant.ensures) in
    same ∙ ap (λ z. z -ℤ pos 1) c.floor_second.ensures
    ∙ ap until (subst (λ n. Some (transition_view c.in-Some.change) ≡ next_at c.args.zone n) at c.in-Some.ensures)

pub overflow_sub-result : goal.overflow_sub-result
overflow_sub-result c =
    omega (arith, ints, first_is_least _ _ c.in-Some.change.timestamp.in_range c.floor_second.ensures)
