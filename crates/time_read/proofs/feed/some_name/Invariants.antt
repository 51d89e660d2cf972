use Rattle.std.proofs.Common.{◌-◌, ◌≤◌, length}
use Rattle.time_read.specs.Names.{list_of}
use Rattle.time_read.proofs.feed.some_name.Given as goal

abbrev pub invariant-loop-place : goal.invariant-loop-place
invariant-loop-place l = l.place ≤ length (list_of l.names)

abbrev pub decreases-loop-place : goal.decreases-loop-place
decreases-loop-place l = length (list_of l.names) - l.place
