use Rattle.std.proofs.Common.{List, sym, refl, map, arith}
use Rattle.std.proofs.lemmas.List.{at_drop_all, take_rest}
use Rattle.time_below.specs.Tree.{trees}
use Rattle.time_plan.specs.Steps.{step_trees, Extends}
use Rattle.time_plan.specs.declared.step.Step.{Step}
use Rattle.time_plan.proofs.FlattenLemmas.{flattened_nodes, flattened_all, one_begins, extends_nothing, first_extends, no_first_extends, on_ok}
use Rattle.time_plan.proofs.flatten.+flatten.Goals as goal
use Rattle.time_plan.proofs.flatten.+flatten.Goals.{add_nodes-in-Some-add_leaf+in_ok-added-in-Some-add_leaf, add_nodes-in-None+in_ok-add_node-in-None}

pub add_node-returns-in-None : goal.add_node-returns-in-None
add_node-returns-in-None g t c = record {
  extends = rw (← c.in-First.ensures.tree)
      (no_first_extends g.T.Node.tree c.in-First.nodes.now (step_trees c.args.steps.now.items) (sym c.in-None.ensures.value));
}

pub add_node-returns-in-Some : goal.add_node-returns-in-Some
add_node-returns-in-Some g t c = record {
  extends = on_ok c.add_node.result
      (λ first. rw (← c.in-First.ensures.tree)
      (first_extends g.T.Node.tree c.in-First.nodes.now c.in-Some.node.now (step_trees c.args.steps.now.items)
      (step_trees c.add_node.new.steps.items) (sym c.in-Some.ensures.value) first)) c.add_node.ensures.extends;
}

pub add_node-returns-in-Nothing : goal.add_node-returns-in-Nothing
add_node-returns-in-Nothing g t c = record {
  extends = rw (← c.in-Nothing.ensures.tree)
      (extends_nothing (step_trees c.args.steps.now.items) _ (λ f. refl) refl refl);
}

pub add_nodes-nodes-preserved-in-Some : goal.add_nodes-nodes-preserved-in-Some
add_nodes-nodes-preserved-in-Some g t c =
    flattened_nodes g.T.Node.tree g.T.Node.size 5 _ (step_trees c.args.steps.now.items) (step_trees c.nodes.steps.items)
    (step_trees c.add_shown.new.steps.items) _ c.nodes.left.now c.in-Some.behind.now _ c.nodes.invariant
    c.in-Some.ensures.behind c.in-Some.ensures.begins c.in_ok-add_shown.ensures.extends

pub add_nodes-nodes-preserved : goal.add_nodes-nodes-preserved
add_nodes-nodes-preserved g t c =
    let others = take_rest c.nodes.left.now 1 in
    let begins = one_begins g.T.Node.tree c.nodes.left.now _ c.node-item.result c.in-len1-up.len_at_least c.node-item.is others in
    let more = λ (steps : List Step) (step : Extends (step_trees c.nodes.steps.items) (step_trees steps) (g.T.Node.tree c.node-item.result)).
    flattened_nodes g.T.Node.tree g.T.Node.size 1 _ (step_trees c.args.steps.now.items) (step_trees c.nodes.steps.items)
    (step_trees steps) _ c.nodes.left.now _ _ c.nodes.invariant others begins step in
    elim c.match-add_leaf.branch [
      | add_nodes-in-Some-add_leaf+in_ok-added-in-Some-add_leaf w ↦
          let added = rw w.in_ok-added-in-Some-add_leaf.was at w.in-Some-add_leaf.ensures.extends in
          rw w.steps-is (more c.add_leaf.new.steps.items added)
      | add_nodes-in-None+in_ok-add_node-in-None w ↦
          let added = rw w.in-None.ensures.extends at w.in_ok-add_node-in-None.ensures.extends in
          rw w.steps-is (more w.add_node.new.steps.items added)
    ]

pub add_nodes-returns : goal.add_nodes-returns
add_nodes-returns g t c = record {
  extends = flattened_all (step_trees c.args.steps.now.items) (step_trees c.nodes.steps.items) _ _ c.nodes.invariant
      (at_drop_all (λ xs. trees (map g.T.Node.tree xs)) c.nodes.left.now 0 (omega (arith, c.in_default.len_below)));
}
