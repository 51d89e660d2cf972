use Rattle.std.proofs.Common.{arith}
use Rattle.std.proofs.lemmas.Bool.Decides.{nat_tests}
use Rattle.movaliren_c.proofs.values.source.offset_east.Goals as goal

pub returns-in-Ok-from_whole_seconds : goal.returns-in-Ok-from_whole_seconds
returns-in-Ok-from_whole_seconds c = grind (arith, nat_tests)
