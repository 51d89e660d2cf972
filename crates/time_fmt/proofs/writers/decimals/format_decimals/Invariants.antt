use Rattle.std.proofs.Common.{◌≡◌, ◌+◌, ◌-◌, ◌<◌, ◌≤◌, ◌++◌}
use Rattle.time_fmt.specs.Decimals.{decimals}
use Rattle.time_fmt.proofs.writers.decimals.format_decimals.Given as goal

-- the digits so far, and then the decimals of what is left, are all decimals
abbrev pub invariant-loop : goal.invariant-loop
invariant-loop g l =
    let old = g.S.Sink.buffer l.fn.output in
    let now = g.S.Sink.buffer l.output in
    record {
      bytes : now.bytes ++ decimals l.left l.unit (l.count - l.counter)
          ≡ old.bytes ++ decimals l.rest l.unit l.count;
      left : l.left < l.unit;
      grown : now.len ≡ old.len + l.counter;
      room : old.len + l.count ≤ now.block.capacity;
      block : now.block ≡ old.block;
    }
