use Rattle.std.proofs.Common.{length, true}
use Rattle.time_fmt.specs.Steps.{IsWrittenUpTo}
use Rattle.time_plan.specs.Steps.{step_tree}
use Rattle.time_plan.proofs.write.write_steps.Given as goal

abbrev pub invariant-loop-step : goal.invariant-loop-step
invariant-loop-step g l =
    g.V.ComponentProvider.agrees l.state l.value
    × IsWrittenUpTo (λ _. true) step_tree (g.V.ComponentProvider.facts l.value) l.steps l.left
    (g.S.Sink.buffer l.fn.output) (g.S.Sink.buffer l.output)

abbrev pub decreases-loop-step : goal.decreases-loop-step
decreases-loop-step g l = length l.left
