use Rattle.std.proofs.Common.{length, map}
use Rattle.time_below.specs.Size.{sizes}
use Rattle.time_below.specs.Tree.{trees}
use Rattle.time_plan.specs.Steps.{step_trees}
use Rattle.time_plan.proofs.FlattenLemmas.{Flattened}
use Rattle.time_plan.proofs.flatten.+flatten.Given as goal

abbrev pub decreases-add_node : goal.decreases-add_node
decreases-add_node g l = g.T.Node.size l.node.now

abbrev pub decreases-add_nodes : goal.decreases-add_nodes
decreases-add_nodes g l = sizes (map g.T.Node.size l.nodes.now)

abbrev pub invariant-add_nodes-nodes : goal.invariant-add_nodes-nodes
invariant-add_nodes-nodes g l =
    Flattened (step_trees l.fn.steps.items) (step_trees l.steps.items) (trees (map g.T.Node.tree l.fn.nodes))
    (trees (map g.T.Node.tree l.left)) (sizes (map g.T.Node.size l.fn.nodes)) (sizes (map g.T.Node.size l.left))

abbrev pub decreases-add_nodes-nodes : goal.decreases-add_nodes-nodes
decreases-add_nodes-nodes g l = length l.left
