use Rattle.std.proofs.Common.{arith}
use Rattle.time_known.proofs.iso8601.LengthLemmas.{decimal_lengths}
use Rattle.time_known.proofs.iso8601.time.put_long_division.Goals as goal

pub returns : goal.returns
returns g c = grind (arith, decimal_lengths)
