use Rattle.movaliren_c.proofs.FlatLemmas.{flat_literal}
use Rattle.movaliren_c.proofs.described.item_room.ItemRoomItems.put_byte.Goals as goal

pub returns-clause-put : goal.returns-clause-put
returns-clause-put c = λ text fs before held. c.put.ensures.put text fs _ (c.byte_item.ensures text) (flat_literal _) before held
