use Rattle.std.proofs.Common.{refl, arith}
use Rattle.time_below.proofs.NodeLemmas.{next_of, summed_more}
use Rattle.time_plan.specs.Steps.{step_tree}
use Rattle.time_plan.proofs.plan.metadata_of.Goals as goal

pub loop-step-preserved : goal.loop-step-preserved
loop-step-preserved c =
    let next = next_of step_tree c.args.steps.now c.loop-step.step-index c.step-item.result c.loop-step-test.true
    c.step-item.is in
    summed_more _ _ _ _ _ _ _ _ c.loop-step.invariant next (omega arith) c.metadata.ensures c.add-sum.ensures refl
