use Rattle.std.proofs.Common.{[], ◌∷◌, refl, sym, ◌∙◌}
use Rattle.movaliren_c.proofs.ItemLemmas.{put_hidden, put_shown}
use Rattle.movaliren_c.proofs.JoinLemmas.{one_shown}
use Rattle.movaliren_c.proofs.described.item_room.ItemRoom.put.Goals as goal

pub returns-then-is_some-clause-put : goal.returns-then-is_some-clause-put
returns-then-is_some-clause-put c = λ text fs tree is leaf before held.
    put_hidden text fs _ _ _ _ before tree (sym c.if-is_some.ensures) held

pub returns-clause-put : goal.returns-clause-put
returns-clause-put c = λ text fs tree is leaf before held.
    let new = c.push.new.self in
    let hidden = c.push.ensures.hidden in
    put_shown text fs new.array.now new.made new.rest new.hidden_at before tree (rw hidden (sym c.if-is_some.ensures)) leaf (hidden ∙ held.hidden)
    (c.push.ensures.pushed text _ (tree ∷ []) refl (one_shown text c.args.item tree is) held.held)
