use Rattle.std.proofs.Common.{◌≡◌, ◌≤◌, ◌-◌, length}
use Rattle.time_lines.specs.Number.{begins, first_place, number_start}
use Rattle.time_lines.specs.Window.{is_time_at}
use Rattle.time_lines.proofs.number.number_from.Given as goal

-- no number begins before this place
abbrev pub invariant-loop-at : goal.invariant-loop-at
invariant-loop-at l =
    let passes = is_time_at l.numbers l.line in
    record {
      inside : l.at ≤ length l.line;
      start : number_start passes l.line l.from ≡ first_place (begins passes l.line) (length l.line - l.at) l.at;
    }

abbrev pub decreases-loop-at : goal.decreases-loop-at
decreases-loop-at l = length l.line - l.at
