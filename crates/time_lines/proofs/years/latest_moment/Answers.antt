use Rattle.std.proofs.Common.{inl, refl}
use Rattle.time_lines.proofs.DescribedLemmas.{no_past_before_next}
use Rattle.time_lines.proofs.years.latest_moment.Goals as goal

pub returns-in-Some : goal.returns-in-Some
returns-in-Some g c = inl (
  c.loop-back.back,
  c.in-Some.moment,
  refl,
  c.in-Some.ensures.some,
  c.loop-back-test.true,
  c.loop-back.invariant,
)

pub loop-back-preserved : goal.loop-back-preserved
loop-back-preserved g c =
    no_past_before_next (g.Z.Zone.has_moment c.args.zone.now) c.args.until.now c.args.local c.loop-back.back
    c.loop-back.invariant c.in_default.ensures.none
