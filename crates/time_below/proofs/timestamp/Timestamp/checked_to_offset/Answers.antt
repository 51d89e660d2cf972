use Rattle.std.proofs.Common.{ℤ, ◌+ℤ◌, IsSome, subst}
use Rattle.std.specs.Prelude.{◌↔◌}
use Rattle.time_below.specs.Moment.{IsTimestampSecond}
use Rattle.time_below.specs.Offset.{offset_seconds}
use Rattle.time_below.proofs.MomentLemmas.{held_second}
use Rattle.time_below.proofs.timestamp.Timestamp.checked_to_offset.Goals as goal

pub returns-clause-accepted : goal.returns-clause-accepted
returns-clause-accepted c =
    let P : ℤ → Type 0 =
    λ s. IsSome c.checked_at_offset.result ↔ IsTimestampSecond (s +ℤ offset_seconds c.args.offset) in
    rw (← c.self.view_is)
    (subst P (held_second c.self.inside.seconds c.self.invariant.0) c.checked_at_offset.ensures.accepted)
