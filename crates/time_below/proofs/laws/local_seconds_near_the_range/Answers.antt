use Rattle.time_below.proofs.MomentLemmas.{IsNearTimestampSecond-local_unix_seconds}
use Rattle.time_below.proofs.laws.local_seconds_near_the_range.Goals as goal

pub returns : goal.returns
returns c = IsNearTimestampSecond-local_unix_seconds
