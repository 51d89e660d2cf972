use Rattle.time_known.proofs.ImfFixdateLemmas.{imf_fixdate_is_written}
use Rattle.time_known.proofs.LawLemmas.{equal_texts}
use Rattle.time_known.proofs.laws.imf_fixdate_equal_texts.Goals as goal

pub returns : goal.returns
returns c = equal_texts imf_fixdate_is_written
