use Rattle.std.proofs.Common.{◌^◌, ◌≤◌, arith}
use Rattle.time_lines.proofs.DigitLemmas.{all-take, decimals_are, ten_growing, ten_pos}
use Rattle.time_lines.proofs.number.decimals_value.Goals as goal

pub returns-then-is_empty-clause-small : goal.returns-then-is_empty-clause-small
returns-then-is_empty-clause-small c = ten_pos c.args.count

pub value_of-requires-clause-digits : goal.value_of-requires-clause-digits
value_of-requires-clause-digits c = all-take c.min.result c.args.decimals.now c.requires.digits

pub overflow_mul-result : goal.overflow_mul-result
overflow_mul-result c =
    let both = decimals_are c.args.count _ _ _ c.args.decimals.now c.requires.count c.requires.digits c.min.ensures
    c.value_of.ensures c.power_of_ten.ensures in
    let small : 10 ^ c.args.count ≤ 1_000_000_000 = ten_growing c.args.count c.requires.count in
    omega (arith, both.1, small)

pub returns-clause-value : goal.returns-clause-value
returns-clause-value c =
    (decimals_are c.args.count _ _ _ c.args.decimals.now c.requires.count c.requires.digits c.min.ensures c.value_of.ensures
    c.power_of_ten.ensures).0

pub returns-clause-small : goal.returns-clause-small
returns-clause-small c =
    (decimals_are c.args.count _ _ _ c.args.decimals.now c.requires.count c.requires.digits c.min.ensures c.value_of.ensures
    c.power_of_ten.ensures).1
