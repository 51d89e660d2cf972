use Rattle.std.proofs.Common.{subst}
use Rattle.time_known.specs.Config.{Choices}
use Rattle.time_known.proofs.StampLemmas.{Answered, IsStamped, is_stamped}
use Rattle.time_known.proofs.stamp.stamp_into.Goals as goal
use Rattle.time_known.proofs.stamp.stamp_into.Goals.{After-format_into}

-- what the call says, by the default configuration
said : (c : After-format_into) → IsStamped c.args.output.now c.format_into.new.output c.format_into.result
said c =
    is_stamped _ (subst (λ (k : Choices). Answered k c.args.output.now c.format_into.new.output c.format_into.result
    c.args.value.now) c.default.ensures
    (record { appends = c.format_into.ensures.appends; spelled = c.format_into.ensures.spelled }))

pub returns-clause-length : goal.returns-clause-length
returns-clause-length c = (said (goal.at.returns-clause-length c).After-format_into).length

pub returns-clause-longer : goal.returns-clause-longer
returns-clause-longer c = (said (goal.at.returns-clause-longer c).After-format_into).longer
