use Rattle.std.proofs.Common.{◌≡◌, ◌∙◌, subst, inr, to_z, of_z, w64, rules}
use Rattle.std.proofs.lemmas.Int.{to_z-of_z}
use Rattle.time_jiff.specs.Clock.{IsNearest, IsSpan}
use Rattle.time_jiff.proofs.clock.ZoneClock.offset_at.Goals as goal

pub returns-then-second-self-clause-offset : goal.returns-then-second-self-clause-offset
returns-then-second-self-clause-offset c = search rules

pub returns-clause-offset : goal.returns-clause-offset
returns-clause-offset c =
    let r = c.ask.new.self in
    let second : to_z w64 (of_z w64 c.as_seconds-second.result) ≡ c.args.moment.now.seconds =
    to_z-of_z w64 c.as_seconds-second.result (record { sfits = c.as_seconds-second.type_inv }) ∙ c.as_seconds-second.ensures.value in (
      r.asked,
      r.first,
      r.last,
      subst (λ z. IsSpan z r.asked r.first r.last r.offset) c.ask.ensures.zone r.span,
      inr (subst (λ s. IsNearest s r.asked) second c.ask.ensures.asked),
    )
