use Rattle.std.proofs.Common.{take}
use Rattle.std.specs.Io.KnownBytes.{Appends}
use Rattle.time_digits.specs.Digits.{joined}
use Rattle.time_show.proofs.output.append_all.Given as goal

-- the parts so far were written
abbrev pub invariant-loop-part : goal.invariant-loop-part
invariant-loop-part g l =
    Appends (g.W.Write.contents l.fn.output) (g.W.Write.contents l.output) (joined (take l.part-index l.parts))
