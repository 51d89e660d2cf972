use Rattle.std.proofs.Common.{refl, true}
use Rattle.std.proofs.lemmas.List.{take_rest}
use Rattle.std.proofs.lemmas.Result.{err_from_is_err_and}
use Rattle.time_fmt.proofs.Engine.{all_written, first_of_rest, list_refused, no_steps, rest_refused, room_for_first, room_for_rest, written_from_the_start, written_more, written_on}
use Rattle.time_plan.specs.Steps.{step_tree}
use Rattle.time_plan.proofs.write.write_steps.Goals as goal

pub loop-step-init : goal.loop-step-init
loop-step-init g c = (c.requires.agrees, written_from_the_start _ _ _ _ _)

pub write_steps_inline-requires-clause-room : goal.write_steps_inline-requires-clause-room
write_steps_inline-requires-clause-room g c =
    room_for_rest true _ step_tree _ _ _ _ _ (λ _. c.requires.room) c.loop-step.invariant.1

-- what the loop found is what is left of all steps
pub write_step-requires-clause-room : goal.write_step-requires-clause-room
write_step-requires-clause-room g c =
    let found = c.in_ok-write_steps_inline.field-0.now in
    let up_to = written_on _ _ _ _ _ _ _ _ _ c.loop-step.invariant.1 c.in_ok-write_steps_inline.ensures.written in
    let next = first_of_rest found _ c.step-item.result c.in-len1-up.len_at_least c.step-item.is (take_rest found 1) in
    room_for_first true step_tree found _ _ (g.S.Sink.buffer c.write_steps_inline.new.output)
    (room_for_rest true _ step_tree _ c.args.steps.now found (g.S.Sink.buffer c.args.output.now)
    (g.S.Sink.buffer c.write_steps_inline.new.output) (λ _. c.requires.room) up_to) next refl

-- a refusal in the loop ends the list, and so does a step that is refused
pub returns-in_err-write_steps_inline-clause-appends : goal.returns-in_err-write_steps_inline-clause-appends
returns-in_err-write_steps_inline-clause-appends g c =
    let same = err_from_is_err_and c.from_residual.result c.from_residual.ensures.1 in
    rw (same.1, same.2) (rest_refused _ _ _ _ _ _ _ _ c.loop-step.invariant.1 c.in_err-write_steps_inline.ensures.refused)

pub returns-in_err-write_step-clause-appends : goal.returns-in_err-write_step-clause-appends
returns-in_err-write_step-clause-appends g c =
    let found = c.in_ok-write_steps_inline.field-0.now in
    let up_to = written_on _ _ _ _ _ _ _ _ _ c.loop-step.invariant.1 c.in_ok-write_steps_inline.ensures.written in
    let next = first_of_rest found _ c.step-item.result c.in-len1-up.len_at_least c.step-item.is (take_rest found 1) in
    let same = err_from_is_err_and c.from_residual-in_err-write_step.result c.from_residual-in_err-write_step.ensures.1 in
    rw (same.1, same.2) (list_refused _ _ _ _ _ _ _ _ _ _ up_to next c.in_err-write_step.ensures.appends)

pub loop-step-preserved : goal.loop-step-preserved
loop-step-preserved g c =
    let found = c.in_ok-write_steps_inline.field-0.now in
    let up_to = written_on _ _ _ _ _ _ _ _ _ c.loop-step.invariant.1 c.in_ok-write_steps_inline.ensures.written in
    let next = first_of_rest found _ c.step-item.result c.in-len1-up.len_at_least c.step-item.is (take_rest found 1) in (
      c.in_ok-write_step.ensures.agrees,
      written_more _ _ _ _ _ _ _ _ _ _ up_to next refl c.in_ok-write_step.ensures.appends,
    )

-- the end of the loop leaves nothing
pub returns-clause-appends : goal.returns-clause-appends
returns-clause-appends g c =
    all_written _ _ _ _ _ _ _ (no_steps c.in_ok-write_steps_inline.field-0.now c.in_default.len_below)
    (written_on _ _ _ _ _ _ _ _ _ c.loop-step.invariant.1 c.in_ok-write_steps_inline.ensures.written)
