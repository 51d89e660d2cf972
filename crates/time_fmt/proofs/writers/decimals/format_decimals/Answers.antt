use Rattle.std.proofs.Common.{◌-◌, ◌+◌, ◌*◌, ◌/◌, ◌%◌, ◌^◌, ◌++◌, arith, ap, ◌∙◌}
use Rattle.time_digits.proofs.DigitLemmas.{length-fixed}
use Rattle.time_fmt.specs.Decimals.{decimals}
use Rattle.time_fmt.proofs.LongDivisionLemmas.{decimals_left, decimals_end}
use Rattle.time_fmt.proofs.writers.decimals.format_decimals.Goals as goal

pub loop-preserved : goal.loop-preserved
loop-preserved g c =
    let rest = c.loop.left * 10 % c.args.unit in
    let others = decimals rest c.args.unit (c.get-count.result - (c.loop.counter + 1)) in
    record {
      bytes = ap (λ bytes. bytes ++ others) c.put_byte.ensures.bytes
          ∙ decimals_left _ _ _ _ _ _ c.loop-test.true c.loop.invariant.left c.loop.invariant.bytes;
      left = omega arith;
      grown = omega arith;
      room = grind arith;
      block = c.put_byte.ensures.block ∙ c.loop.invariant.block;
    }

pub returns : goal.returns
returns g c =
    let digits = c.args.digits in
    let same = c.get-count.ensures.value in
    let length = length-fixed digits (c.args.rest * 10 ^ digits / c.args.unit) in
    let all = decimals_end _ _ _ _ _ _ c.loop-test.false c.loop.invariant.bytes in
    record {
      writes = record {
        appended = all ∙ ap (λ d. (g.S.Sink.buffer c.args.output.now).bytes ++ decimals c.args.rest c.args.unit d) same;
        counted = omega (arith, length);
        grown = omega (arith, length);
        block = c.loop.invariant.block;
      };
    }
