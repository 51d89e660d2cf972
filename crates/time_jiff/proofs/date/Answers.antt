use Rattle.std.proofs.Common.{rules}
use Rattle.time_jiff.proofs.date.Goals as goal

pub returns : goal.returns
returns c = search rules
