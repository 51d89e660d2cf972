use Rattle.std.proofs.Common.{ℕ, ◌≡◌, ◌≤◌, ◌<◌, ◌-◌, length, false}
use Rattle.time_lines.specs.Number.{is_digit_at}
use Rattle.time_lines.proofs.number.past_blocks.Given as goal

-- no digit stands from the first place up to this one
abbrev pub invariant-loop-at : goal.invariant-loop-at
invariant-loop-at l = record {
  after : l.from ≤ l.at;
  inside : l.at ≤ length l.line;
  none : (k : ℕ) → l.from ≤ k → k < l.at → is_digit_at l.line k ≡ false;
}

abbrev pub decreases-loop-at : goal.decreases-loop-at
decreases-loop-at l = length l.line - l.at
