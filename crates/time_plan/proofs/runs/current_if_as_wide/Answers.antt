use Rattle.std.proofs.Common.{◌∙◌, sym}
use Rattle.time_plan.proofs.runs.current_if_as_wide.Goals as goal

pub returns-then-component_width-clause-width : goal.returns-then-component_width-clause-width
returns-then-component_width-clause-width c =
    sym c.component_width.ensures ∙ c.if-component_width.true ∙ c.component_width-2.ensures
