use Rattle.std.proofs.Common.{◌≡◌, ◌+◌, ◌++◌, length}
use Rattle.time_fmt.proofs.writers.plain.write_in_blocks.Given as goal

-- what is written so far, and then the bytes that are left, are all bytes
abbrev pub invariant-loop-rest : goal.invariant-loop-rest
invariant-loop-rest g l =
    let old = g.S.Sink.buffer l.fn.output in
    let now = g.S.Sink.buffer l.taken in
    record {
      bytes : now.bytes ++ l.rest ≡ old.bytes ++ l.fn.bytes;
      grown : now.len + length l.rest ≡ old.len + length l.fn.bytes;
      block : now.block ≡ old.block;
    }

abbrev pub decreases-loop-rest : goal.decreases-loop-rest
decreases-loop-rest g l = length l.rest
