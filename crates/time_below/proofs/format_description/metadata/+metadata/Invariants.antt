use Rattle.std.proofs.Common.{map, drop}
use Rattle.time_below.specs.Size.{sizes}
use Rattle.time_below.specs.Tree.{trees}
use Rattle.time_below.proofs.NodeLemmas.{Summed}
use Rattle.time_below.proofs.format_description.metadata.+metadata.Given as goal

abbrev pub decreases-metadata_of_node : goal.decreases-metadata_of_node
decreases-metadata_of_node g l = g.T.Node.size l.node.now

abbrev pub decreases-metadata_of_nodes : goal.decreases-metadata_of_nodes
decreases-metadata_of_nodes g l = sizes (map g.T.Node.size l.nodes.now)

abbrev pub invariant-metadata_of_nodes-loop-node : goal.invariant-metadata_of_nodes-loop-node
invariant-metadata_of_nodes-loop-node g l =
    let left = drop l.node-index l.nodes in
    Summed l.sum (trees (map g.T.Node.tree l.nodes)) (trees (map g.T.Node.tree left))
    (sizes (map g.T.Node.size l.nodes)) (sizes (map g.T.Node.size left))
