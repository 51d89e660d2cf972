use Rattle.std.proofs.Common.{[]}
use Rattle.time_describe.proofs.StrftimeLaws.{spelled_read}
use Rattle.time_describe.proofs.laws.what_strftime_spells_is_described.Goals as goal

pub returns : goal.returns
returns c = λ ps all means few. spelled_read ps [] all means few
