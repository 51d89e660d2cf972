use Rattle.std.proofs.Common.{arith}
use Rattle.time_known.proofs.iso8601.LengthLemmas.{decimals_of_second}
use Rattle.time_known.proofs.iso8601.time.put_decimals.Goals as goal

pub returns-in-6 : goal.returns-in-6
returns-in-6 g c = grind (arith, decimals_of_second)

pub returns-in-3 : goal.returns-in-3
returns-in-3 g c = grind (arith, decimals_of_second)

pub returns-in-1 : goal.returns-in-1
returns-in-1 g c = grind (arith, decimals_of_second)

pub returns-in_default : goal.returns-in_default
returns-in_default g c = grind (arith, decimals_of_second)

pub returns-in-9-to-255 : goal.returns-in-9-to-255
returns-in-9-to-255 g c = grind (arith, decimals_of_second)
