use Rattle.std.proofs.Common.{sym, subst}
use Rattle.movaliren_c.proofs.JoinLemmas.{five_joined}
use Rattle.movaliren_c.specs.Described.{IsItem}
use Rattle.movaliren_c.specs.declared.described.item.Item.{Item}
use Rattle.time_below.specs.Tree.{all_of, trees}
use Rattle.time_describe.specs.Items.{items_of_parted}
use Rattle.time_describe.specs.declared.items.Parted.{Parted}
use Rattle.movaliren_c.proofs.described.join.joined.Goals as goal

pub returns-clause-joins : goal.returns-clause-joins
returns-clause-joins c = λ text.
    let p : Parted = record {
      first = c.in_ok-component_in.field-0;
      before_second = c.in_ok-before_second.before_second;
      second = c.in_ok-component_in-2.field-0;
      before_third = c.in_ok-before_third.before_third;
      third = c.in_ok-component_in-3.field-0;
    } in
    let shows = subst (λ (i : Item). IsItem text i (all_of (trees (items_of_parted p)))) (sym c.run_item.ensures) (c.in_ok-run_of.ensures text) in
    five_joined text c.args.items.now _ c.run_item.result p c.in-len5-up.len_at_least
    (c.in_ok-component_in.ensures text) (c.in_ok-before_second.ensures text) (c.in_ok-component_in-2.ensures text) (c.in_ok-before_third.ensures text)
    (c.in_ok-component_in-3.ensures text) shows
