use Rattle.movaliren_c.proofs.ItemLemmas.{ended}
use Rattle.movaliren_c.proofs.described.item_room.ItemRoomItems.end_lists.Goals as goal

pub returns-clause-ended : goal.returns-clause-ended
returns-clause-ended c = λ text fs items lists left item held is. ended text fs c.args._kind items lists _ _ _ left _ item held is
