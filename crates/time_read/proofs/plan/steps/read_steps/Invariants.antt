use Rattle.std.proofs.Common.{length}
use Rattle.time_read.proofs.plan.steps.read_steps.Given as goal

abbrev pub decreases-steps : goal.decreases-steps
decreases-steps g l = length l.steps_left
