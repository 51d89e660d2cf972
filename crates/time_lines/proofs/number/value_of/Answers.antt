use Rattle.std.proofs.Common.{◌∙◌, ap, arith}
use Rattle.std.proofs.lemmas.List.{take_all}
use Rattle.std.specs.Str.Parse.{digits_value}
use Rattle.time_lines.proofs.number.value_of.Goals as goal

pub returns-in-10 : goal.returns-in-10
returns-in-10 c = c.sum_of.ensures ∙ ap (digits_value 10) (take_all 10 c.args.digits.now (omega arith))
