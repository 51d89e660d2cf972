use Rattle.std.proofs.Common.{arith}
use Rattle.time_plan.proofs.StepLemmas.{one_byte}
use Rattle.time_plan.proofs.literal.Literal.of.Goals as goal

pub returns-in-len1 : goal.returns-in-len1
returns-in-len1 c = record {
  bytes = one_byte c.args.bytes.now (omega (arith, c.in-len1.len_at_least)) (omega (arith, c.in-len1.len_below));
}
