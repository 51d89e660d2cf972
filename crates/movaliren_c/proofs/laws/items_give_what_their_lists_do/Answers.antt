use Rattle.time_below.specs.Tree.{trees}
use Rattle.movaliren_c.proofs.FlatLemmas.{all_flat_same}
use Rattle.movaliren_c.proofs.laws.items_give_what_their_lists_do.Goals as goal

pub returns : goal.returns
returns c = λ all f. all_flat_same (trees all) f
