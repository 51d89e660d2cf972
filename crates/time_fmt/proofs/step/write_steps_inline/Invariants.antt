use Rattle.std.proofs.Common.{length, drop, ◌≤◌, ◌-◌}
use Rattle.time_fmt.specs.Steps.{IsWrittenUpTo}
use Rattle.time_fmt.proofs.step.write_steps_inline.Given as goal

abbrev pub invariant-loop-index : goal.invariant-loop-index
invariant-loop-index g l =
    g.V.ComponentProvider.agrees l.state l.value × l.index ≤ length l.steps
    × IsWrittenUpTo (g.T.WriteStep.is_valid l.beside) (g.T.WriteStep.tree_of l.beside) (g.V.ComponentProvider.facts l.value)
    l.steps (drop l.index l.steps) (g.S.Sink.buffer l.fn.output) (g.S.Sink.buffer l.taken)

abbrev pub decreases-loop-index : goal.decreases-loop-index
decreases-loop-index g l = length l.steps - l.index
