use Rattle.movaliren_c.proofs.FlatLemmas.{flat_literal}
use Rattle.movaliren_c.proofs.described.item_room.ItemRoomItems.put_literal.Goals as goal

pub returns-clause-put : goal.returns-clause-put
returns-clause-put c = λ fs before held. c.put.ensures.put c.args.text.now fs _ c.text_item.ensures (flat_literal _) before held
