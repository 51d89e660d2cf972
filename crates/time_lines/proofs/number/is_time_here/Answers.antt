use Rattle.std.proofs.Common.{drop}
use Rattle.time_lines.proofs.DigitLemmas.{digits_of-all}
use Rattle.time_lines.proofs.NumberLemmas.{digits_of_number, time_is_here}
use Rattle.time_lines.proofs.number.is_time_here.Goals as goal

pub is_within-requires : goal.is_within-requires
is_within-requires c = record {
  digits = rw (digits_of_number c.args.line.now c.args.at c.args.count c.requires.count)
      (digits_of-all (drop c.args.at c.args.line.now));
}

pub returns-then-is_time : goal.returns-then-is_time
returns-then-is_time c =
    time_is_here c.args.numbers.now c.args.line.now c.args.at c.args.count c.is_time.result c.has_minus.result
    c.is_within.result c.requires.count c.is_time.ensures c.if-is_time.true c.has_minus.ensures.tells c.is_within.ensures
