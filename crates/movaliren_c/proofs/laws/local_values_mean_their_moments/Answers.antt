use Rattle.movaliren_c.proofs.MeaningLemmas.{local_means, utc_means, only_one}
use Rattle.movaliren_c.proofs.laws.local_values_mean_their_moments.Goals as goal

pub returns-clause-local : goal.returns-clause-local
returns-clause-local c = local_means

pub returns-clause-utc : goal.returns-clause-utc
returns-clause-utc c = utc_means

pub returns-clause-only : goal.returns-clause-only
returns-clause-only c = only_one
