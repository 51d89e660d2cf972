use Rattle.std.proofs.Common.{◌∙◌, ◌+◌, List, ap, drop, map}
use Rattle.time_below.specs.Tree.{trees}
use Rattle.time_fmt.specs.Description.{trees_outcome}
use Rattle.time_read.proofs.StepLemmas.{next_step}
use Rattle.time_read.proofs.plan.compare.stepwise_difference.Goals as goal

pub loop-step-preserved : goal.loop-step-preserved
loop-step-preserved g c =
    let f = g.V.ComponentProvider.facts c.args.value.now in
    let tree = g.T.ReadStep.tree_of c.args.texts.now in
    let others = drop (c.loop-step.step-index + 1) c.args.steps.now in
    let step = next_step c.args.steps.now c.loop-step.step-index c.step-item.result c.loop-step-test.true c.step-item.is in (
      c.in-Ok.ensures.agrees,
      λ is. c.loop-step.invariant.1
          (ap (λ (ss : List g.row.T.Denot). trees_outcome (trees (map tree ss)) f) step
          ∙ c.in-Ok.ensures.behind (trees (map tree others)) is),
    )
