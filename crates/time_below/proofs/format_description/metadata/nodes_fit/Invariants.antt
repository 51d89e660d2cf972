use Rattle.std.proofs.Common.{◌+◌, ◌≤◌, map, drop}
use Rattle.time_below.specs.Tree.{trees}
use Rattle.time_below.specs.Width.{trees_width}
use Rattle.time_below.proofs.format_description.metadata.nodes_fit.Given as goal

-- what was passed is within the room that was taken for it
abbrev pub invariant-loop-node : goal.invariant-loop-node
invariant-loop-node g l =
    trees_width (trees (map g.T.Node.tree l.nodes)) + l.left
    ≤ l.room + trees_width (trees (map g.T.Node.tree (drop l.node-index l.nodes)))
