use Rattle.std.proofs.Common.{◌≡◌, ◌+◌, ◌≤◌, ◌++◌, replicate}
use Rattle.time_fmt.proofs.writers.digits.write_zeros.Given as goal

-- the zeros so far are at the end of the output, and the others fit its capacity
abbrev pub invariant-loop : goal.invariant-loop
invariant-loop g l =
    let old = g.S.Sink.buffer l.fn.output in
    let now = g.S.Sink.buffer l.output in
    record {
      bytes : now.bytes ≡ old.bytes ++ replicate l.counter 48;
      grown : now.len ≡ old.len + l.counter;
      room : old.len + l.count ≤ now.block.capacity;
      block : now.block ≡ old.block;
    }
