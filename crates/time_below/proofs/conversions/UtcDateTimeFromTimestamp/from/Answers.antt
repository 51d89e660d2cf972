use Rattle.std.proofs.Common.{arith}
use Rattle.time_below.proofs.MomentLemmas.{unix_seconds-utc}
use Rattle.time_below.proofs.conversions.UtcDateTimeFromTimestamp.from.Goals as goal

pub returns-clause-moment : goal.returns-clause-moment
returns-clause-moment c = grind (arith, unix_seconds-utc)
