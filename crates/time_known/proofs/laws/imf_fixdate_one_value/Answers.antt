use Rattle.time_known.proofs.ImfFixdateLemmas.{imf_fixdate_one_value}
use Rattle.time_known.proofs.laws.imf_fixdate_one_value.Goals as goal

pub returns : goal.returns
returns c = imf_fixdate_one_value
