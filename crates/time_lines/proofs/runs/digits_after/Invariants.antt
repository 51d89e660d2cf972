use Rattle.std.proofs.Common.{◌≤◌, ◌-◌, length}
use Rattle.time_lines.specs.Number.{digit_count}
use Rattle.time_lines.proofs.runs.digits_after.Given as goal

-- so many digits at least begin the text
abbrev pub invariant-loop-count : goal.invariant-loop-count
invariant-loop-count l = record {
  inside : l.count ≤ length l.text;
  digits : l.count ≤ digit_count l.text;
}

abbrev pub decreases-loop-count : goal.decreases-loop-count
decreases-loop-count l = length l.text - l.count
