use Rattle.std.proofs.Common.{◌≡◌, ℤ, ◌∙◌, ◌+ℤ◌, IsSome, IfSome, ap, subst}
use Rattle.std.specs.Prelude.{◌↔◌}
use Rattle.time_below.specs.Moment.{Moment, OffsetDateAndTime, IsTimestampSecond, local_at, local_moment}
use Rattle.time_below.specs.Offset.{offset_seconds}
use Rattle.time_below.proofs.MomentLemmas.{held_near_second, same_moment}
use Rattle.time_below.proofs.offset_date_time.moment.OffsetDateTime.checked_to_offset.Goals as goal

pub returns-clause-accepted : goal.returns-clause-accepted
returns-clause-accepted c =
    let P : ℤ → Type 0 =
    λ s. IsSome c.checked_at_offset.result ↔ IsTimestampSecond (s +ℤ offset_seconds c.args.offset) in
    subst P (held_near_second _ c.unix_timestamp.ensures.range ∙ c.unix_timestamp.ensures.value)
    c.checked_at_offset.ensures.accepted

pub returns-clause-value : goal.returns-clause-value
returns-clause-value c =
    let P : Moment → Type 0 = λ m. IfSome c.checked_at_offset.result (λ t. t ≡ local_at m c.args.offset) in
    subst P
    (same_moment _ _ _ (local_moment c.args.self).nanosecond
    (held_near_second _ c.unix_timestamp.ensures.range ∙ c.unix_timestamp.ensures.value)
    (c.nanosecond.ensures.value ∙ ap (λ (t : OffsetDateAndTime). t.time.nanosecond) c.self.view_is))
    c.checked_at_offset.ensures.value
