use Rattle.std.proofs.Common.{ap, refl, arith}
use Rattle.std.proofs.lemmas.List.{take_rest}
use Rattle.std.proofs.lemmas.Result.{err_from_is_err_and}
use Rattle.time_fmt.specs.Sink.{Block}
use Rattle.movaliren_c.specs.Items.{item_tree, trees_of}
use Rattle.movaliren_c.proofs.DescribedLemmas.{all_put, nothing_so_far, one_more, refused_here, steps_more, stops_here}
use Rattle.movaliren_c.proofs.described.put_items.Goals as goal

pub loop-item-init : goal.loop-item-init
loop-item-init g c = grind (arith, nothing_so_far)

-- a refusal in the loop
pub returns-in_err-write_steps_inline-clause-puts : goal.returns-in_err-write_steps_inline-clause-puts
returns-in_err-write_steps_inline-clause-puts g c =
    let p = err_from_is_err_and c.from_residual.result c.from_residual.ensures.1 in
    rw p.1 (refused_here (item_tree c.args.texts.now) c.loop-item.left.now _ _ _ _ _ _
    (trees_of c.args.texts.now c.args.items.now) p.0 c.in_err-write_steps_inline.ensures.refused p.2 c.loop-item.invariant)

-- what the loop found is what is left of all items
pub returns-in_err-write_item-clause-puts : goal.returns-in_err-write_item-clause-puts
returns-in_err-write_item-clause-puts g c =
    let found = c.in_ok-write_steps_inline.field-0.now in
    let so_far = steps_more (item_tree c.args.texts.now) c.loop-item.left.now found _ _ _ _ _
    (trees_of c.args.texts.now c.args.items.now) c.write_steps_inline.ensures.agrees c.in_ok-write_steps_inline.ensures.written c.loop-item.invariant in
    let p = err_from_is_err_and c.from_residual-in_err-write_item.result c.from_residual-in_err-write_item.ensures.1 in
    rw (p.1, p.2) (stops_here _ found _ _ _ _ _ _ _ _ (trees_of c.args.texts.now c.args.items.now) _
    c.in-len1-up.len_at_least refl c.in_err-write_item.ensures.put so_far)

pub loop-item-preserved : goal.loop-item-preserved
loop-item-preserved g c =
    let found = c.in_ok-write_steps_inline.field-0.now in
    let so_far = steps_more (item_tree c.args.texts.now) c.loop-item.left.now found _ _ _ _ _
    (trees_of c.args.texts.now c.args.items.now) c.write_steps_inline.ensures.agrees c.in_ok-write_steps_inline.ensures.written c.loop-item.invariant in
    one_more {after = g.V.ComponentProvider.agrees c.write_item.new.state c.args.value.now}
    _ found _ _ _ _ _ _ _ _ _ _ (trees_of c.args.texts.now c.args.items.now) c.in-len1-up.len_at_least
    (take_rest found 1) refl c.in_ok-write_item.ensures.agrees c.in_ok-write_item.ensures.put
    c.saturating_add-lost.ensures so_far

-- the end of the loop leaves nothing
pub returns-clause-puts : goal.returns-clause-puts
returns-clause-puts g c =
    let found = c.in_ok-write_steps_inline.field-0.now in
    let so_far = steps_more (item_tree c.args.texts.now) c.loop-item.left.now found _ _ _ _ _
    (trees_of c.args.texts.now c.args.items.now) c.write_steps_inline.ensures.agrees c.in_ok-write_steps_inline.ensures.written c.loop-item.invariant in
    all_put _ found _ _ _ _ _ c.in_default.len_below so_far

pub returns-clause-lender : goal.returns-clause-lender
returns-clause-lender g c =
    let found = c.in_ok-write_steps_inline.field-0.now in
    let so_far = steps_more (item_tree c.args.texts.now) c.loop-item.left.now found _ _ _ _ _
    (trees_of c.args.texts.now c.args.items.now) c.write_steps_inline.ensures.agrees c.in_ok-write_steps_inline.ensures.written c.loop-item.invariant in
    ap (λ (b : Block). b.lender) so_far.put.2.block
