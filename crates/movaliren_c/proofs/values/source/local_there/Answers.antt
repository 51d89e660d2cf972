use Rattle.std.proofs.Common.{◌≡◌, ℤ, ◌+ℤ◌, Ok, true, refl, rules, arith}
use Rattle.movaliren_c.specs.Utc.{local_there}
use Rattle.movaliren_c.specs.Value.{is_in_years}
use Rattle.time_below.specs.Moment.{IsTimestampSecond, Moment, OffsetDateAndTime, local_at}
use Rattle.time_below.specs.Offset.{Offset, offset_seconds}
use Rattle.std.proofs.lemmas.Grind.{common_steps}
use Rattle.movaliren_c.proofs.values.source.local_there.Goals as goal

in_years : (seconds : ℤ) → IsTimestampSecond seconds → is_in_years seconds ≡ true
in_years seconds inside = search rules

there : (m : Moment) (o : Offset) (t : OffsetDateAndTime) → t ≡ local_at m o
    → is_in_years (m.seconds +ℤ offset_seconds o) ≡ true → Ok t ≡ local_there m o
there m o t same inside = rw (inside, same) refl

pub returns : goal.returns
returns c = grind (arith, common_steps, there, in_years)
