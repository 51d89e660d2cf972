use Rattle.std.proofs.Common.{arith, sym}
use Rattle.time_read.specs.Space.{outside}
use Rattle.time_read.proofs.SpaceLemmas.{after_none, after_more}
use Rattle.time_read.proofs.space.space.Goals as goal

pub loop-at-init : goal.loop-at-init
loop-at-init c = record { within = omega arith; shallow = omega arith; reached = after_none outside }

pub loop-at-preserved : goal.loop-at-preserved
loop-at-preserved c =
    let i = c.loop-at.invariant in
    record {
      within = omega arith;
      shallow = omega (arith, i.shallow, c.in-Some.ensures.shallow);
      reached = after_more c.args.text.now c.loop-at.at c.loop-at.depth outside c.in-Some.next c.loop-at-test.true i.reached
          (sym c.in-Some.ensures.value);
    }
