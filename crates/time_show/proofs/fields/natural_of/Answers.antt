use Rattle.std.proofs.Common.{◌≡◌, get_or, true, arith}
use Rattle.std.specs.Char.{is_ascii_digit}
use Rattle.time_show.proofs.FieldsLemmas.{DigitMore, digit_more, digits_value-small}
use Rattle.time_show.proofs.fields.natural_of.Goals as goal

pub overflow_mul-value : goal.overflow_mul-value
overflow_mul-value c =
    let here : is_ascii_digit (get_or c.args.digits.now c.loop-digit.digit-index 0) ≡ true = grind arith in
    let more : DigitMore c.args.digits.now c.loop-digit.digit-index =
    digit_more _ _ (omega arith) c.loop-digit.invariant.digits (omega arith) here in
    omega (arith, more.value, more.small)

pub overflow_add-value : goal.overflow_add-value
overflow_add-value c =
    let here : is_ascii_digit (get_or c.args.digits.now c.loop-digit.digit-index 0) ≡ true = grind arith in
    let more : DigitMore c.args.digits.now c.loop-digit.digit-index =
    digit_more _ _ (omega arith) c.loop-digit.invariant.digits (omega arith) here in
    omega (arith, more.value, more.small)

pub loop-digit-preserved : goal.loop-digit-preserved
loop-digit-preserved c =
    let here : is_ascii_digit (get_or c.args.digits.now c.loop-digit.digit-index 0) ≡ true = grind arith in
    let more : DigitMore c.args.digits.now c.loop-digit.digit-index =
    digit_more _ _ (omega arith) c.loop-digit.invariant.digits (omega arith) here in
    record { digits = more.digits; value = omega (arith, more.value) }

pub returns-clause-small : goal.returns-clause-small
returns-clause-small c =
    omega (arith, digits_value-small c.args.digits.now c.loop-digit.digit-index (omega arith) c.loop-digit.invariant.digits)
