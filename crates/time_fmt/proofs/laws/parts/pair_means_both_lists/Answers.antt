use Rattle.time_fmt.proofs.PartLemmas
use Rattle.time_fmt.proofs.laws.parts.pair_means_both_lists.Goals as goal

pub returns : goal.returns
returns c = PartLemmas.pair_means_both_lists
