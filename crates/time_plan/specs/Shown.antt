-- What a step shows of a value before its literal.
use Rattle.time_below.specs.Tree.{Tree, nothing, of_component}
use Rattle.time_fmt.specs.Runs.{run_tree}
use Rattle.time_plan.specs.declared.shown.Shown.{Shown}
use Rattle.time_plan.specs.declared.shown.Shown.TheVariants as shown

abbrev pub shown_tree : Shown → Tree
shown_tree (shown.Component c) = of_component c
shown_tree (shown.Run r) = run_tree r
shown_tree shown.Nothing = nothing
