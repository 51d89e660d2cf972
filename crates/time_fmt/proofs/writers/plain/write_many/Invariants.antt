use Rattle.std.proofs.Common.{◌≡◌, ◌+◌, ◌≤◌, ◌++◌, drop, length}
use Rattle.time_digits.specs.Digits.{joined}
use Rattle.time_fmt.proofs.writers.plain.write_many.Given as goal

-- what is written so far, and then the texts that are left, are all texts
abbrev pub invariant-loop-text : goal.invariant-loop-text
invariant-loop-text g l =
    let old = g.S.Sink.buffer l.fn.output in
    let now = g.S.Sink.buffer l.output in
    let left = joined (drop l.text-index l.texts) in
    record {
      bytes : now.bytes ++ left ≡ old.bytes ++ joined l.texts;
      count : l.sum + length left ≡ length (joined l.texts);
      grown : old.len + l.sum ≡ now.len;
      room : now.len + length left ≤ now.block.capacity;
      block : now.block ≡ old.block;
    }
