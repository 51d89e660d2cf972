use Rattle.std.proofs.Common.{◌≤◌, ◌-◌, length}
use Rattle.time_lines.specs.Shown.{SameShown}
use Rattle.time_lines.proofs.UnixLemmas.{HasDone}
use Rattle.time_lines.proofs.unix.append_rest.Given as goal

-- what was appended, and what the rest becomes, is what the whole becomes
abbrev pub invariant-loop-round : goal.invariant-loop-round
invariant-loop-round g l = record {
  inside : l.at ≤ length l.line;
  same : SameShown (g.S.Shows.shows l.fn.shown) (g.S.Shows.shows l.shown);
  done : HasDone (g.S.Shows.shows l.fn.shown) l.numbers l.most (l.most - l.round) l.line l.from l.at l.fn.output.items l.output.items;
}
