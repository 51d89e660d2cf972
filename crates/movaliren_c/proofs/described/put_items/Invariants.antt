use Rattle.std.proofs.Common.{length}
use Rattle.movaliren_c.specs.Items.{trees_of}
use Rattle.movaliren_c.proofs.DescribedLemmas.{SoFar}
use Rattle.movaliren_c.proofs.described.put_items.Given as goal

abbrev pub invariant-loop-item : goal.invariant-loop-item
invariant-loop-item g l = SoFar (g.V.ComponentProvider.agrees l.state l.value) (g.S.Sink.buffer l.fn.output)
    (g.S.Sink.buffer l.output) l.lost (g.V.ComponentProvider.facts l.value) (trees_of l.texts l.items)
    (trees_of l.texts l.left)

abbrev pub decreases-loop-item : goal.decreases-loop-item
decreases-loop-item g l = length l.left
