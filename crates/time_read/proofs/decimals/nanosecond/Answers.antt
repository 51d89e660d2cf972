use Rattle.std.proofs.Common.{arith}
use Rattle.time_read.proofs.Fractions.{product}
use Rattle.time_read.proofs.decimals.nanosecond.Goals as goal

pub overflow_mul-result : goal.overflow_mul-result
overflow_mul-result c =
    let e = c.first_digits-number.ensures in
    let p = product c.args.text.now c.first_digits-number.result.1 c.first_digits-number.result.0 e.value e.digits in
    omega (arith, p.1)

pub returns-clause-value : goal.returns-clause-value
returns-clause-value c =
    let e = c.first_digits-number.ensures in
    (product c.args.text.now c.first_digits-number.result.1 c.first_digits-number.result.0 e.value e.digits).0

pub returns-clause-range : goal.returns-clause-range
returns-clause-range c =
    let e = c.first_digits-number.ensures in
    (product c.args.text.now c.first_digits-number.result.1 c.first_digits-number.result.0 e.value e.digits).1
