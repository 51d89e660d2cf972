use Rattle.time_plan.proofs.ThreeLemmas.{run_begins}
use Rattle.time_plan.proofs.runs.run_between.Goals as goal

pub returns : goal.returns
returns g c =
    run_begins c.of.result c.in_ok-first.first c.in_ok-component_of.field-0 c.in_ok-component_of-2.field-0 _ _ _ _ _ _ _
    c.in_ok-first.ensures c.in_ok-byte_of.ensures.tree c.in_ok-component_of.ensures c.in_ok-byte_of-2.ensures.tree
    c.in_ok-component_of-2.ensures c.of.ensures
