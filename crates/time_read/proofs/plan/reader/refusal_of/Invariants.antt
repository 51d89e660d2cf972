use Rattle.std.proofs.Common.{length}
use Rattle.time_read.proofs.plan.reader.refusal_of.Given as goal

abbrev pub decreases-steps : goal.decreases-steps
decreases-steps g l = length l.left
