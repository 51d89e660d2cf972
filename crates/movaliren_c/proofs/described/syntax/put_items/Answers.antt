use Rattle.std.proofs.Common.{length}
use Rattle.movaliren_c.proofs.ItemLemmas.{all_held, fault_told}
use Rattle.movaliren_c.proofs.described.syntax.put_items.Goals as goal

pub returns-in-Ok-clause-found : goal.returns-in-Ok-clause-found
returns-in-Ok-clause-found g c =
    let room = c.put_all.new.items in
    all_held g.S.Reason.Numbered.number c.args.text.now (g.S.Syntax.described c.args.text.now) room.array.now room.made room.rest room.hidden_at c.in-Ok.ensures.found

pub returns-in-Err-clause-fault : goal.returns-in-Err-clause-fault
returns-in-Err-clause-fault g c =
    let text = c.args.text.now in
    rw (c.at.ensures, c.number.ensures, c.index_in.ensures.index) (fault_told g.S.Reason.Numbered.number text (g.S.Syntax.described text) c.in-Err.fault c.in-Err.ensures.fault)
