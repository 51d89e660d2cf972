use Rattle.std.proofs.Common.{length, map, true}
use Rattle.time_below.specs.Size.{sizes}
use Rattle.time_fmt.specs.Steps.{IsWrittenUpTo}
use Rattle.time_fmt.proofs.formattable.engine.+engine.Given as goal

abbrev pub decreases-write_node : goal.decreases-write_node
decreases-write_node g l = g.T.Node.size l.node.now

abbrev pub decreases-write_nodes : goal.decreases-write_nodes
decreases-write_nodes g l = sizes (map g.T.Node.size l.nodes.now)

abbrev pub invariant-write_nodes-loop-node : goal.invariant-write_nodes-loop-node
invariant-write_nodes-loop-node g l =
    g.V.ComponentProvider.agrees l.state l.value
    × IsWrittenUpTo (λ _. true) g.T.Node.tree (g.V.ComponentProvider.facts l.value) l.nodes l.left
    (g.S.Sink.buffer l.fn.output) (g.S.Sink.buffer l.output)

abbrev pub decreases-write_nodes-loop-node : goal.decreases-write_nodes-loop-node
decreases-write_nodes-loop-node g l = length l.left
