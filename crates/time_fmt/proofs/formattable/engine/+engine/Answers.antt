use Rattle.std.proofs.Common.{refl, rules, sym, true}
use Rattle.std.proofs.lemmas.List.{take_rest}
use Rattle.std.proofs.lemmas.Result.{err_from_is_err_and}
use Rattle.time_below.specs.Width.{tree_width}
use Rattle.time_fmt.specs.Sink.{Fits}
use Rattle.time_fmt.proofs.GuaranteeLemmas.{text_of_component}
use Rattle.time_fmt.proofs.Engine.{all_written, first_of_rest, first_smaller, list_refused, no_steps, rest_refused, room_for_first, room_for_rest, written_from_the_start, written_more, written_on}
use Rattle.time_fmt.proofs.Engine.{first_appends, no_first, appends_bytes, nothing_appends}
use Rattle.time_fmt.proofs.formattable.engine.+engine.Goals as goal

pub write_nodes-loop-node-init : goal.write_nodes-loop-node-init
write_nodes-loop-node-init g t c = (c.requires.agrees, written_from_the_start _ _ _ _ _)

pub write_nodes-write_steps_inline-requires-clause-room : goal.write_nodes-write_steps_inline-requires-clause-room
write_nodes-write_steps_inline-requires-clause-room g t c =
    room_for_rest true _ g.T.Node.tree _ _ _ _ _ (λ _. c.requires.room) c.loop-node.invariant.1

-- what the loop found is what is left of all nodes
pub write_nodes-write_node-requires : goal.write_nodes-write_node-requires
write_nodes-write_node-requires g t c κs within =
    let found = c.in_ok-write_steps_inline.field-0.now in
    let behind = take_rest found 1 in
    let up_to = written_on _ _ _ _ _ _ _ _ _ c.loop-node.invariant.1 c.in_ok-write_steps_inline.ensures.written in
    let next = first_of_rest found _ c.node-item.result c.in-len1-up.len_at_least c.node-item.is behind in
    let room : Fits (g.S.Sink.buffer c.write_steps_inline.new.output) (tree_width (g.T.Node.tree c.node-item.result)) =
    room_for_first true g.T.Node.tree found _ _ (g.S.Sink.buffer c.write_steps_inline.new.output)
    (room_for_rest true _ g.T.Node.tree _ c.args.nodes.now found (g.S.Sink.buffer c.args.output.now)
    (g.S.Sink.buffer c.write_steps_inline.new.output) (λ _. c.requires.room) up_to) next refl in
    let agrees = c.write_steps_inline.ensures.agrees in
    let smaller = first_smaller _ _ g.T.Node.size _ _ _ _ _ _ _ up_to next in
    search rules

-- a refusal in the loop ends the list, and so does a node that is refused
pub write_nodes-returns-in_err-write_steps_inline-clause-appends :
    goal.write_nodes-returns-in_err-write_steps_inline-clause-appends
write_nodes-returns-in_err-write_steps_inline-clause-appends g t c =
    let same = err_from_is_err_and c.from_residual.result c.from_residual.ensures.1 in
    rw (same.1, same.2) (rest_refused _ _ _ _ _ _ _ _ c.loop-node.invariant.1 c.in_err-write_steps_inline.ensures.refused)

pub write_nodes-returns-in_err-write_node-clause-appends :
    goal.write_nodes-returns-in_err-write_node-clause-appends
write_nodes-returns-in_err-write_node-clause-appends g t c =
    let found = c.in_ok-write_steps_inline.field-0.now in
    let behind = take_rest found 1 in
    let up_to = written_on _ _ _ _ _ _ _ _ _ c.loop-node.invariant.1 c.in_ok-write_steps_inline.ensures.written in
    let next = first_of_rest found _ c.node-item.result c.in-len1-up.len_at_least c.node-item.is behind in
    let same = err_from_is_err_and c.from_residual-in_err-write_node.result c.from_residual-in_err-write_node.ensures.1 in
    rw (same.1, same.2) (list_refused _ _ _ _ _ _ _ _ _ _ up_to next c.in_err-write_node.ensures.appends)

pub write_nodes-loop-node-preserved : goal.write_nodes-loop-node-preserved
write_nodes-loop-node-preserved g t c =
    let found = c.in_ok-write_steps_inline.field-0.now in
    let behind = take_rest found 1 in
    let up_to = written_on _ _ _ _ _ _ _ _ _ c.loop-node.invariant.1 c.in_ok-write_steps_inline.ensures.written in
    let next = first_of_rest found _ c.node-item.result c.in-len1-up.len_at_least c.node-item.is behind in (
      c.in_ok-write_node.ensures.agrees,
      written_more _ _ _ _ _ _ _ _ _ _ up_to next refl c.in_ok-write_node.ensures.appends,
    )

-- the end of the loop leaves nothing
pub write_nodes-returns-clause-appends : goal.write_nodes-returns-clause-appends
write_nodes-returns-clause-appends g t c =
    all_written _ _ _ _ _ _ _ (no_steps c.in_ok-write_steps_inline.field-0.now c.in_default.len_below)
    (written_on _ _ _ _ _ _ _ _ _ c.loop-node.invariant.1 c.in_ok-write_steps_inline.ensures.written)

-- each layer has the outcome and the capacity of its tree
pub write_node-write_bytes-requires : goal.write_node-write_bytes-requires
write_node-write_bytes-requires g t c = record { room = rw (← c.in-Bytes.ensures.tree) at c.requires.room }

pub write_node-write-requires : goal.write_node-write-requires
write_node-write-requires g t c = record { room = rw (← c.in-Text.ensures.tree) at c.requires.room }

pub write_node-write_component-requires-clause-room : goal.write_node-write_component-requires-clause-room
write_node-write_component-requires-clause-room g t c = rw (← c.in-Component.ensures.tree) at c.requires.room

pub write_node-returns-in-Bytes-clause-appends : goal.write_node-returns-in-Bytes-clause-appends
write_node-returns-in-Bytes-clause-appends g t c =
    rw (← c.in-Bytes.ensures.tree) (appends_bytes c.in-Bytes.bytes.now _ c.write_bytes.ensures.writes)

pub write_node-returns-in-All-clause-appends : goal.write_node-returns-in-All-clause-appends
write_node-returns-in-All-clause-appends g t c = rw (← c.in-All.ensures.tree) c.write_nodes.ensures.appends

pub write_node-returns-in-None-clause-appends : goal.write_node-returns-in-None-clause-appends
write_node-returns-in-None-clause-appends g t c =
    rw (← c.in-First.ensures.tree) (no_first g.T.Node.tree c.in-First.nodes.now (g.S.Sink.buffer c.args.output.now) _ (sym c.in-None.ensures.value))

pub write_node-returns-in-Nothing-clause-appends : goal.write_node-returns-in-Nothing-clause-appends
write_node-returns-in-Nothing-clause-appends g t c =
    rw (← c.in-Nothing.ensures.tree) (nothing_appends (g.S.Sink.buffer c.args.output.now) _)

pub write_node-returns-in-Component-clause-appends : goal.write_node-returns-in-Component-clause-appends
write_node-returns-in-Component-clause-appends g t c = rw (← c.in-Component.ensures.tree) (record {
  ends = c.write_component.ensures.ends;
  text = λ _. text_of_component c.in-Component.component (g.V.ComponentProvider.facts c.args.value.now);
})

pub write_node-returns-in-Some-clause-appends : goal.write_node-returns-in-Some-clause-appends
write_node-returns-in-Some-clause-appends g t c = rw (← c.in-First.ensures.tree)
    (first_appends g.T.Node.tree c.in-First.nodes.now c.in-Some.node.now (g.S.Sink.buffer c.args.output.now) (g.S.Sink.buffer c.write_node.new.output) _
    (sym c.in-Some.ensures.value) c.write_node.ensures.appends)

pub write_node-returns-in-Optional-clause-appends : goal.write_node-returns-in-Optional-clause-appends
write_node-returns-in-Optional-clause-appends g t c =
    rw (← c.in-Optional.ensures.tree) c.write_node-in-Optional.ensures.appends
