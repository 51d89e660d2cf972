use Rattle.std.proofs.Common.{drop}
use Rattle.time_below.proofs.NodeLemmas.{Summed}
use Rattle.time_plan.specs.Steps.{step_trees}
use Rattle.time_plan.proofs.plan.metadata_of.Given as goal

abbrev pub invariant-loop-step : goal.invariant-loop-step
invariant-loop-step l = Summed l.sum (step_trees l.steps) (step_trees (drop l.step-index l.steps)) 0 0
