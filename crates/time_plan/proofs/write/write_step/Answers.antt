use Rattle.time_plan.proofs.WriteLemmas.{step_ended, step_refused}
use Rattle.time_plan.proofs.write.write_step.Goals as goal

pub returns-in-Ok-clause-appends : goal.returns-in-Ok-clause-appends
returns-in-Ok-clause-appends g c =
    step_ended c.args.step.now (g.V.ComponentProvider.facts c.args.value.now) (g.S.Sink.buffer c.args.output.now)
    (g.S.Sink.buffer c.write_shown.new.output) (g.S.Sink.buffer c.write_literal.new.output) c.in-Ok.ensures.ends c.write_literal.ensures.writes

pub returns-in-Err-clause-appends : goal.returns-in-Err-clause-appends
returns-in-Err-clause-appends g c =
    step_refused c.args.step.now (g.V.ComponentProvider.facts c.args.value.now) (g.S.Sink.buffer c.args.output.now)
    (g.S.Sink.buffer c.write_shown.new.output) c.in-Err.ensures.ends
