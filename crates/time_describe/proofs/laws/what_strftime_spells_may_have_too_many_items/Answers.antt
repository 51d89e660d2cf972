use Rattle.std.proofs.Common.{[], arith}
use Rattle.time_describe.proofs.StrftimeLaws.{spelled_exceeds}
use Rattle.time_describe.proofs.laws.what_strftime_spells_may_have_too_many_items.Goals as goal

pub returns : goal.returns
returns c = λ ps all means many. spelled_exceeds ps [] all means many (omega arith)
