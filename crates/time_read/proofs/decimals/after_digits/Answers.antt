use Rattle.std.proofs.Common.{arith, get_or}
use Rattle.std.proofs.lemmas.Int.Digits.{digits_more}
use Rattle.std.proofs.lemmas.Str.{digit_value_digit}
use Rattle.time_read.proofs.decimals.after_digits.Goals as goal

pub loop-count-preserved : goal.loop-count-preserved
loop-count-preserved c =
    let i = c.loop-count.invariant in
    let v = digit_value_digit (get_or c.args.text.now c.loop-count.count 0) (omega arith, omega arith) in
    record {
      within = omega arith;
      digits = digits_more 10 c.args.text.now c.loop-count.count c.loop-count-test.true i.digits (omega arith);
    }
