use Rattle.movaliren_c.proofs.ItemLemmas.{closed}
use Rattle.movaliren_c.proofs.described.item_room.ItemRoomItems.close_list.Goals as goal

pub returns-clause-closed : goal.returns-clause-closed
returns-clause-closed c = λ text f fs items deep held. closed text f fs _ _ _ c.args.depth _ _ items deep c.closed_at-self.ensures held
