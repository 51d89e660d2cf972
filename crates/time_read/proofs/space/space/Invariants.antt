use Rattle.std.proofs.Common.{◌≡◌, ◌-◌, ◌≤◌, length, take}
use Rattle.std.specs.Prelude.{Some}
use Rattle.time_read.specs.Space.{depth_after, outside}
use Rattle.time_read.proofs.space.space.Given as goal

abbrev pub decreases-loop-at : goal.decreases-loop-at
decreases-loop-at l = length l.text - l.at

abbrev pub invariant-loop-at : goal.invariant-loop-at
invariant-loop-at l = record {
  within : l.at ≤ length l.text;
  shallow : l.depth.depth ≤ l.at;
  reached : depth_after outside (take l.at l.text) ≡ Some l.depth;
}
