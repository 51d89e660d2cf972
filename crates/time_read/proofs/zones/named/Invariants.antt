use Rattle.std.proofs.Common.{◌-◌, ◌≤◌}
use Rattle.time_read.proofs.zones.named.Given as goal

abbrev pub invariant-loop-place : goal.invariant-loop-place
invariant-loop-place l = l.place ≤ 10

abbrev pub decreases-loop-place : goal.decreases-loop-place
decreases-loop-place l = 10 - l.place
