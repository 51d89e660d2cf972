use Rattle.std.proofs.Common.{◌≡◌, ◌≤◌, List, [], length, None}
use Rattle.time_below.specs.Tree.{Tree}
use Rattle.time_describe.specs.Outcome.{IsEnd}
use Rattle.time_describe.specs.Reading.{Frame, read, brackets}
use Rattle.time_describe.proofs.brackets.pieces.in_brackets.Given as goal

abbrev pub invariant-words : goal.invariant-words
invariant-words l = record {
  along : (fs : List Frame) (items : List Tree) → read fs (brackets l.opened l.component []) items [] l.rest ≡ read fs (brackets l.opened None []) items [] l.bytes;
  shorter : length l.rest ≤ length l.bytes;
  end : IsEnd l.bytes l.rest;
}

abbrev pub decreases-words : goal.decreases-words
decreases-words l = length l.rest
