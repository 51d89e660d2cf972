-- What the steps of a plan mean.
use Rattle.std.specs.Prelude.{◌≡◌, ◌+◌, ◌&&◌, List, map}
use Rattle.time_below.specs.Facts.{Facts}
use Rattle.time_below.specs.Tree.{Tree, Trees, all_of, end, more, trees}
use Rattle.time_below.specs.Width.{tree_width, trees_width, is_guaranteed_text, are_guaranteed_text}
use Rattle.time_fmt.specs.Description.{tree_outcome, trees_outcome}
use Rattle.time_fmt.specs.Laws.{Means}
use Rattle.time_fmt.specs.Outcome.{join}
use Rattle.time_plan.specs.Literal.{literal_bytes, literal_tree}
use Rattle.time_plan.specs.Shown.{shown_tree}
use Rattle.time_plan.specs.declared.step.Step.{Step}

-- a step is what it shows, and then its literal
abbrev pub step_tree : Step → Tree
step_tree s = all_of (more (shown_tree s.shown) (more (literal_tree s.is_text (literal_bytes s.literal)) end))

-- the steps in order
abbrev pub step_trees : List Step → Trees
step_trees steps = trees (map step_tree steps)

-- what the new steps mean is what the old ones mean, and then the tree
pub record Extends (old new : Trees) (t : Tree) : Type 0 where
  pub outcome : (f : Facts) → trees_outcome new f ≡ join (trees_outcome old f) (tree_outcome t f)
  pub width : trees_width new ≡ trees_width old + tree_width t
  pub text : are_guaranteed_text new ≡ (are_guaranteed_text old && is_guaranteed_text t)

-- two trees that mean the same
abbrev pub IsAlike : Tree → Tree → Type 0
IsAlike t u = Means (tree_outcome t) (tree_width t) (is_guaranteed_text t) u

-- trees in order mean what the first tree means, and then what is left
pub record Begins (all : Trees) (first : Tree) (left : Trees) : Type 0 where
  pub outcome : (f : Facts) → trees_outcome all f ≡ join (tree_outcome first f) (trees_outcome left f)
  pub width : trees_width all ≡ tree_width first + trees_width left
  pub text : are_guaranteed_text all ≡ (is_guaranteed_text first && are_guaranteed_text left)
