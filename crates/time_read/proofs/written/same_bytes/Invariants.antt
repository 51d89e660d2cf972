use Rattle.std.proofs.Common.{◌-◌, length}
use Rattle.time_read.proofs.written.same_bytes.Given as goal

abbrev pub decreases-loop-count : goal.decreases-loop-count
decreases-loop-count l = length l.own - l.count
