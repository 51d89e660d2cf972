use Rattle.std.proofs.Common.{◌≡◌, ◌+◌, ◌≤◌, ◌++◌, drop, length}
use Rattle.time_fmt.proofs.writers.plain.write_each.Given as goal

-- what is written so far, and then the bytes that are left, are all bytes
abbrev pub invariant-loop-byte : goal.invariant-loop-byte
invariant-loop-byte g l =
    let old = g.S.Sink.buffer l.fn.output in
    let now = g.S.Sink.buffer l.output in
    let left = drop l.byte-index l.bytes in
    record {
      bytes : now.bytes ++ left ≡ old.bytes ++ l.bytes;
      grown : now.len + length left ≡ old.len + length l.bytes;
      room : now.len + length left ≤ now.block.capacity;
      block : now.block ≡ old.block;
    }
