use Rattle.std.proofs.Common.{arith, ap, ◌∙◌}
use Rattle.std.proofs.lemmas.List.{take-take}
use Rattle.std.specs.Str.Parse.{digits_value}
use Rattle.time_read.proofs.Fractions.{first_in_nine}
use Rattle.time_read.proofs.decimals.first_digits.Goals as goal

pub returns : goal.returns
returns c =
    let e = c.digits-2.ensures in
    record {
      digits = first_in_nine c.args.text.now c.digits-2.result.1 (omega arith) e.digits;
      value = e.value ∙ ap (digits_value 10) (take-take c.digits-2.result.1 9 c.args.text.now e.digits.most);
    }
