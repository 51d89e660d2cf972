use Rattle.movaliren_c.specs.Items.{item_tree}
use Rattle.movaliren_c.proofs.DescribedLemmas.{leaf_of_item, valid_item}
use Rattle.movaliren_c.proofs.described.ItemWriteStepRefSliceU8.write_inline.Goals as goal

pub returns-clause-appends : goal.returns-clause-appends
returns-clause-appends g c =
    leaf_of_item c.args.texts.now c.args.self.now _ _ _ c.write_usual.result c.write_usual.ensures.writes

pub returns-clause-valid : goal.returns-clause-valid
returns-clause-valid g c =
    valid_item _ (item_tree c.args.texts.now c.args.self.now) _ _ _ c.write_usual.result c.write_usual.ensures.writes
