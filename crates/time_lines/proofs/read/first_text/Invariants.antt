use Rattle.time_lines.specs.Read.{NothingBefore, SameReads}
use Rattle.time_lines.proofs.read.first_text.Given as goal

-- nothing is read before this place
abbrev pub invariant-loop-at : goal.invariant-loop-at
invariant-loop-at g l =
    SameReads (g.R.Reads.reads l.initial.reader) (g.R.Reads.reads l.reader)
    × NothingBefore (g.R.Reads.reads l.initial.reader) l.line l.at
