use Rattle.time_read.proofs.LenientLemmas.{means_itself, means_one_value}
use Rattle.time_read.proofs.laws.lenient_texts.Goals as goal

pub returns : goal.returns
returns c = record { one_value = means_one_value; spelled = means_itself }
