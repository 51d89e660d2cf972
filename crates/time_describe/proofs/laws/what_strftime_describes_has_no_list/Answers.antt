use Rattle.time_describe.proofs.ListLemmas.{described_leaves}
use Rattle.time_describe.proofs.laws.what_strftime_describes_has_no_list.Goals as goal

pub returns : goal.returns
returns c = λ text all is. described_leaves text all is
