use Rattle.std.proofs.Common.{◌-◌, length, take, drop}
use Rattle.time_lines.proofs.DigitLemmas.{digits_of-all}
use Rattle.time_lines.proofs.number.decimals_of.Goals as goal

pub returns-in-46-clause-digits : goal.returns-in-46-clause-digits
returns-in-46-clause-digits c =
    rw c.digit_count.ensures.count (digits_of-all (take (length c.args.text.now - 1) (drop 1 c.args.text.now)))
