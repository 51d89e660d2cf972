use Rattle.time_provide.proofs.EqualityLemmas.{states_decide}
use Rattle.time_provide.proofs.laws.date_state_equality.Goals as goal

pub returns : goal.returns
returns c = states_decide _ _
