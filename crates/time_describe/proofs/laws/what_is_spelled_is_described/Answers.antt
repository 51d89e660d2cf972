use Rattle.time_describe.proofs.GrammarLemmas.{read_spelling}
use Rattle.time_describe.proofs.laws.what_is_spelled_is_described.Goals as goal

pub returns : goal.returns
returns c = λ ps all means few. read_spelling ps all means few
