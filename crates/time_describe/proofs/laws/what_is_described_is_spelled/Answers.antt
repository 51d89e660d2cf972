use Rattle.time_describe.proofs.SpelledLemmas.{described_spelled}
use Rattle.time_describe.proofs.laws.what_is_described_is_spelled.Goals as goal

pub returns : goal.returns
returns c = λ text all is. described_spelled text all is
