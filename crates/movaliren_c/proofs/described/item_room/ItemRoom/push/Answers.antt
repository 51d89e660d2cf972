use Rattle.movaliren_c.proofs.ItemLemmas.{item_stored}
use Rattle.movaliren_c.proofs.described.item_room.ItemRoom.push.Goals as goal

pub returns-then-self-clause-pushed : goal.returns-then-self-clause-pushed
returns-then-self-clause-pushed c = λ text all more size is holds.
    let old = c.args.self.now in
    item_stored text old.array.now old.made old.rest c.saturating_add-self.result c.args.others c.args.item all more c.if-self.true
    c.saturating_add-self.ensures size is holds
