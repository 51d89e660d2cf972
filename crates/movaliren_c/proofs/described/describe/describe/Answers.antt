use Rattle.std.proofs.Common.{sym, ◌∙◌, rules}
use Rattle.movaliren_c.proofs.ItemLemmas.{left_complete}
use Rattle.movaliren_c.specs.Described.{items_in}
use Rattle.movaliren_c.proofs.described.describe.describe.Goals as goal

pub returns-in-Ok-clause-leaves : goal.returns-in-Ok-clause-leaves
returns-in-Ok-clause-leaves g c =
    let text = c.args.text.now in
    let room = c.put_items.new.items in
    left_complete text (items_in g.S.Reason.Numbered.number text (g.S.Syntax.described text)) room.array.now _ room.made room.rest
    c.made.result c.args.fault.now c.in-Ok.ensures.found (search rules) c.made.ensures
    (sym c.is_complete.ensures.value ∙ c.if-is_complete.true) c.is_complete.ensures.size
