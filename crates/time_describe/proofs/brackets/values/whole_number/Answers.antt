use Rattle.std.proofs.Common.{sym, ◌∙◌, arith}
use Rattle.time_describe.proofs.ValueLemmas.{digit_read, digit_refused, digits_end}
use Rattle.time_describe.proofs.brackets.values.whole_number.Goals as goal

pub returns-in-None : goal.returns-in-None
returns-in-None c =
    sym (digit_refused c.loop-digit.number c.loop-digit.digit-index c.args.digits.now c.loop-digit-test.true (sym c.with_digit.ensures ∙ c.in-None.is)) ∙ c.loop-digit.invariant

pub loop-digit-preserved : goal.loop-digit-preserved
loop-digit-preserved c =
    sym (digit_read c.loop-digit.number c.in-Some.next c.loop-digit.digit-index c.args.digits.now c.loop-digit-test.true (sym c.with_digit.ensures ∙ c.in-Some.is)) ∙ c.loop-digit.invariant

pub returns : goal.returns
returns c = sym (digits_end c.loop-digit.number c.loop-digit.digit-index c.args.digits.now (omega arith)) ∙ c.loop-digit.invariant
