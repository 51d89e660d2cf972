use Rattle.std.proofs.Common.{refl}
use Rattle.movaliren_c.proofs.described.item_room.ItemRoomItems.put_component.Goals as goal

pub returns-clause-put : goal.returns-clause-put
returns-clause-put c = λ text fs before held.
    c.join.ensures.same text fs _ (c.put.ensures.put text fs _ (c.item_of.ensures.shows text) refl before held)
