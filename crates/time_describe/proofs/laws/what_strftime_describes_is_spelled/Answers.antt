use Rattle.std.proofs.Common.{[]}
use Rattle.time_describe.proofs.StrftimeLaws.{read_spelled, read_few}
use Rattle.time_describe.proofs.laws.what_strftime_describes_is_spelled.Goals as goal

pub returns : goal.returns
returns c = λ text all is. let w = read_spelled text 0 [] all is in (w.0, w.1, w.2, read_few text all is)
