use Rattle.time_known.proofs.EqualityLemmas.{same_choices, equal_choices}
use Rattle.time_known.proofs.laws.iso8601_equality.Goals as goal

pub returns : goal.returns
returns c = (λ h. same_choices _ _ h, λ e. equal_choices _ _ e)
