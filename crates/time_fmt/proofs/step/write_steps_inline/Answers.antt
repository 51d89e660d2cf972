use Rattle.std.proofs.Common.{◌+◌, ◌≤◌, arith, length}
use Rattle.time_fmt.proofs.Engine.{left_at, list_refused, room_for_first, room_for_rest, written_from_the_start, written_more}
use Rattle.time_fmt.proofs.step.write_steps_inline.Goals as goal

pub loop-index-init : goal.loop-index-init
loop-index-init g c = (
  c.requires.agrees,
  omega arith,
  rw c.take_out-taken.ensures.taken (written_from_the_start _ _ _ _ _),
)

pub write_inline-requires-clause-room : goal.write_inline-requires-clause-room
write_inline-requires-clause-room g c =
    let next = left_at c.args.steps.now c.loop-index.index c.index-steps-index.result c.loop-index-test.true c.index-steps-index.is in
    let old = g.S.Sink.buffer c.args.output.now in
    let now = g.S.Sink.buffer c.loop-index.taken in
    room_for_first g.T.WriteStep.has_room (g.T.WriteStep.tree_of c.args.beside) _ _ _ now
    (room_for_rest _ _ _ _ _ _ old now c.requires.room c.loop-index.invariant.2) next

pub returns-in-Some-Err-clause-refused : goal.returns-in-Some-Err-clause-refused
returns-in-Some-Err-clause-refused g c =
    let next = left_at c.args.steps.now c.loop-index.index c.index-steps-index.result c.loop-index-test.true c.index-steps-index.is in
    rw c.put_back.ensures.put
    (list_refused _ _ _ _ _ _ _ _ _ _ c.loop-index.invariant.2 next
    (rw (c.in-Some-Err.field-0-is, ← c.in-Some-Err.refused-is) at c.in-Some-Err.ensures.appends))

pub loop-index-preserved : goal.loop-index-preserved
loop-index-preserved g c =
    let next = left_at c.args.steps.now c.loop-index.index c.index-steps-index.result c.loop-index-test.true c.index-steps-index.is in
    let less : c.loop-index.index + 1 ≤ length c.args.steps.now = omega (arith, c.loop-index-test.true) in (
      c.in-Some-Ok.ensures.agrees,
      less,
      written_more _ _ _ _ _ _ _ _ _ _ c.loop-index.invariant.2 next c.in-Some-Ok.ensures.valid
          (rw c.in-Some-Ok.field-0-is at c.in-Some-Ok.ensures.appends),
    )
