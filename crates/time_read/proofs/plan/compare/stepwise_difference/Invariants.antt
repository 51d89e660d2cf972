use Rattle.std.proofs.Common.{◌≡◌, drop, map}
use Rattle.time_below.specs.Tree.{trees}
use Rattle.time_fmt.specs.Description.{trees_outcome}
use Rattle.time_fmt.specs.Outcome.{done}
use Rattle.time_read.proofs.plan.compare.stepwise_difference.Given as goal

-- the text is that of the steps if what is left of it is that of the steps that are left
abbrev pub invariant-loop-step : goal.invariant-loop-step
invariant-loop-step g l =
    let f = g.V.ComponentProvider.facts l.value in
    let tree = g.T.ReadStep.tree_of l.texts in
    g.V.ComponentProvider.agrees l.state l.value
    × (trees_outcome (trees (map tree (drop l.step-index l.steps))) f ≡ done l.left
    → trees_outcome (trees (map tree l.steps)) f ≡ done l.text)
