use Rattle.std.proofs.Common.{◌≡◌, IfNone, subst, sym}
use Rattle.time_below.specs.Facts.{Facts}
use Rattle.time_fmt.specs.Outcome.{Outcome, done}
use Rattle.time_read.proofs.plan.compare.difference.Goals as goal

-- the plan's text is that of its steps
pub returns-then-compute_metadata-le-ROOM : goal.returns-then-compute_metadata-le-ROOM
returns-then-compute_metadata-le-ROOM g c =
    let f = g.V.ComponentProvider.facts c.args.value.now in
    subst (λ (outcome : Facts → Outcome). IfNone c.whole_difference.result (outcome f ≡ done c.args.text.now))
    (sym c.steps.ensures.outcome) c.whole_difference.ensures

pub returns-else-compute_metadata-le-ROOM : goal.returns-else-compute_metadata-le-ROOM
returns-else-compute_metadata-le-ROOM g c =
    let f = g.V.ComponentProvider.facts c.args.value.now in
    subst (λ (outcome : Facts → Outcome). IfNone c.stepwise_difference.result (outcome f ≡ done c.args.text.now))
    (sym c.steps-else-compute_metadata-le-ROOM.ensures.outcome) c.stepwise_difference.ensures
