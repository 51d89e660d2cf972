use Rattle.std.proofs.Common.{map, drop}
use Rattle.movaliren_c.specs.Items.{item_tree, list_of, trees_of}
use Rattle.movaliren_c.proofs.DescribedLemmas.{Summed}
use Rattle.movaliren_c.proofs.described.width.Given as goal

abbrev pub invariant-loop-item : goal.invariant-loop-item
invariant-loop-item l = Summed 0x7fff_ffff_ffff_ffff l.left (trees_of l.texts l.items)
    (list_of (map (item_tree l.texts) (drop l.item-index l.items)))
