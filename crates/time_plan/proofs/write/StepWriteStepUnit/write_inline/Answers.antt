use Rattle.time_plan.proofs.WriteLemmas.{step_ended, step_refused}
use Rattle.time_plan.proofs.write.StepWriteStepUnit.write_inline.Goals as goal

pub returns-in-Some-Ok-clause-appends : goal.returns-in-Some-Ok-clause-appends
returns-in-Some-Ok-clause-appends g c =
    step_ended c.args.self.now (g.V.ComponentProvider.facts c.args.value.now) (g.S.Sink.buffer c.args.output.now)
    (g.S.Sink.buffer c.write_shown_inline.new.output) (g.S.Sink.buffer c.write_literal.new.output)
    (rw c.in-Some-Ok.field-0-is at c.in-Some-Ok.ensures.ends) c.write_literal.ensures.writes

pub returns-in-Some-Err-clause-appends : goal.returns-in-Some-Err-clause-appends
returns-in-Some-Err-clause-appends g c =
    step_refused c.args.self.now (g.V.ComponentProvider.facts c.args.value.now) (g.S.Sink.buffer c.args.output.now)
    (g.S.Sink.buffer c.write_shown_inline.new.output)
    (rw (c.in-Some-Err.field-0-is, ← c.in-Some-Err.refused-is) at c.in-Some-Err.ensures.ends)
