use Rattle.std.proofs.Common.{take, Ok}
use Rattle.time_show.proofs.feed.Given as goal
use Rattle.time_show.specs.Run.{GoesOn}

-- the bytes so far are answered
abbrev pub invariant-loop-byte : goal.invariant-loop-byte
invariant-loop-byte g l = GoesOn (Ok tt) (take l.byte-index l.bytes) l.fn.line l.line
    (g.W.Write.contents l.fn.output) (g.W.Write.contents l.output)
