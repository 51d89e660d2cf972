use Rattle.std.proofs.Common.{arith}
use Rattle.movaliren_c.proofs.DescribedLemmas.{no_value}
use Rattle.movaliren_c.proofs.described.write_described.Goals as goal

pub returns-in-Err : goal.returns-in-Err
returns-in-Err g c = grind (arith, no_value)
