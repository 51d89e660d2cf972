-- The steps of a plan.
use Rattle.std.specs.Prelude.{List}
use Rattle.time_plan.specs.declared.plan.Plan.{Plan}
use Rattle.time_plan.specs.declared.step.Step.{Step}

-- in order
abbrev pub steps_of : Plan → List Step
steps_of plan = plan.steps.items
