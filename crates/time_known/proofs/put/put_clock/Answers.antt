use Rattle.std.proofs.Common.{arith}
use Rattle.time_known.proofs.LengthLemmas.{joined_lengths}
use Rattle.time_known.proofs.put.put_clock.Goals as goal

pub returns : goal.returns
returns g c = grind (arith, joined_lengths)
