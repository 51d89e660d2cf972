use Rattle.std.proofs.lemmas.List.{take_rest}
use Rattle.time_fmt.specs.Runs.{run_tree}
use Rattle.time_plan.proofs.ThreeLemmas.{front_begins}
use Rattle.time_plan.proofs.runs.run_of.Goals as goal

pub returns-in-Some-clause-begins : goal.returns-in-Some-clause-begins
returns-in-Some-clause-begins g c =
    front_begins g.T.Node.tree c.args.nodes.now c.first-item.result c.before_second-item.result c.second-item.result
    c.before_third-item.result c.third-item.result (run_tree c.in-Some.run') _ c.in-len5-up.len_at_least (take_rest c.args.nodes.now 5)
    c.first-item.is c.before_second-item.is c.second-item.is c.before_third-item.is c.third-item.is c.in-Some.ensures
