use Rattle.std.proofs.Common.{refl, sym, ◌∙◌, subst}
use Rattle.movaliren_c.specs.Described.{IsItem}
use Rattle.movaliren_c.specs.declared.described.item.Item.{Item}
use Rattle.time_below.specs.Tree.{all_of, trees}
use Rattle.time_describe.specs.Items.{items_of_parted}
use Rattle.movaliren_c.proofs.ItemLemmas.{parted_put}
use Rattle.movaliren_c.proofs.described.item_room.ItemRoomItems.put_parted.Goals as goal

pub returns-in-Some-clause-put : goal.returns-in-Some-clause-put
returns-in-Some-clause-put c = λ _ text before held.
    let p = c.args.parted in
    let new = c.push.new.self in
    let shows = subst (λ (i : Item). IsItem text i (all_of (trees (items_of_parted p)))) (sym c.run_item.ensures) (c.in-Some.ensures text) in
    parted_put text new.array.now new.made new.rest new.hidden_at before p (c.push.ensures.hidden ∙ held.hidden)
    (c.push.ensures.pushed text _ (items_of_parted p) refl shows held.held)
