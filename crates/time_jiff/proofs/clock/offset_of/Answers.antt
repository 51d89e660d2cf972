use Rattle.std.proofs.Common.{◌≡◌, ◌∙◌, ap, arith}
use Rattle.std.proofs.lemmas.Int.{ints}
use Rattle.jiff_core.specs.declared.offset.Offset.{Offset}
use Rattle.jiff_tz.specs.Zone.{offset_at}
use Rattle.time_jiff.specs.Clock.{nanosecond_of}
use Rattle.time_jiff.proofs.clock.offset_of.Goals as goal

pub returns : goal.returns
returns c =
    let at : c.instant.result.nanosecond ≡ nanosecond_of c.args.asked = omega (arith, ints, c.instant.ensures) in
    c.offset.ensures.value ∙ ap (λ (o : Offset). o.seconds) c.from_plain.ensures ∙ c.to_offset.ensures
    ∙ ap (offset_at c.args.zone) at
