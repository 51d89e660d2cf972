-- The laws of descriptions.
use Rattle.std.proofs.Common.{◌≡◌, refl, sym, ap, ap₂, ◌∙◌}
use Rattle.time_below.specs.Facts.{Facts}
use Rattle.time_below.specs.Tree.{Tree, Trees, byte_literal, text_literal, of_component, all_of, first_of, nothing, end}
use Rattle.time_below.specs.Tree.{more, unmarked, all_unmarked}
use Rattle.time_fmt.specs.Description.{tree_outcome, trees_outcome, current_outcome}
use Rattle.time_fmt.specs.Outcome.{join}
use Rattle.time_fmt.proofs.ConversionLemmas.{current_is_current}

-- the outcome of a tree is that of its unmarked tree
mutual
  pub outcome-unmarked : (t : Tree) (f : Facts) → tree_outcome (unmarked t) f ≡ tree_outcome t f
  outcome-unmarked (byte_literal bytes) f = refl
  outcome-unmarked (text_literal text) f = refl
  outcome-unmarked (of_component c) f = ap (λ d. current_outcome d f) (current_is_current c)
  outcome-unmarked (all_of ts) f = outcomes-unmarked ts f
  outcome-unmarked (first_of end) f = refl
  outcome-unmarked (first_of (more t ts)) f = outcome-unmarked t f
  outcome-unmarked nothing f = refl

  pub outcomes-unmarked : (ts : Trees) (f : Facts) → trees_outcome (all_unmarked ts) f ≡ trees_outcome ts f
  outcomes-unmarked end f = refl
  outcomes-unmarked (more t ts) f = ap₂ join (outcome-unmarked t f) (outcomes-unmarked ts f)

-- trees that are equal once they are unmarked have equal outcomes
pub equal_outcomes : (s t : Tree) (f : Facts) → unmarked s ≡ unmarked t → tree_outcome s f ≡ tree_outcome t f
equal_outcomes s t f e = sym (outcome-unmarked s f) ∙ ap (λ u. tree_outcome u f) e ∙ outcome-unmarked t f
