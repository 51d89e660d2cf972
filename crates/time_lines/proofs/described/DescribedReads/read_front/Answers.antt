use Rattle.time_lines.proofs.DescribedLemmas.{found_inside}
use Rattle.time_lines.proofs.described.DescribedReads.read_front.Goals as goal

pub returns-clause-inside : goal.returns-clause-inside
returns-clause-inside g c = found_inside _ _ _ _ c.read_forms.result c.read_forms.ensures
