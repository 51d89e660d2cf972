use Rattle.time_below.proofs.OffsetLemmas.{one_offset_of_seconds}
use Rattle.time_below.proofs.laws.one_offset_for_each_number_of_seconds.Goals as goal

pub returns-clause-only : goal.returns-clause-only
returns-clause-only c = one_offset_of_seconds
