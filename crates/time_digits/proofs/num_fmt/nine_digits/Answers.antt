use Rattle.std.proofs.Common.{refl, replicate, arith}
use Rattle.std.proofs.lemmas.Grind.{common_steps}
use Rattle.time_digits.proofs.WriteLemmas.{nine_written}
use Rattle.time_digits.proofs.num_fmt.nine_digits.Goals as goal

pub returns : goal.returns
returns c = nine_written c.args.n (replicate 9 48) c.write_one_digit.new.buf c.write_four_digits.new.buf _ refl
    (grind (arith, common_steps)) (grind (arith, common_steps)) (grind (arith, common_steps))
