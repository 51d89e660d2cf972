-- A component that is not deprecated is its own current one, with its outcome; that of a deprecated one is no wider.
use Rattle.std.proofs.Common.{◌≡◌, ◌∙◌, ◌≤◌, IsTrue, true, ap, refl, arith}
use Rattle.std.proofs.lemmas.Grind.{common_steps}
use Rattle.time_below.specs.Conversion.{current_component, is_current}
use Rattle.time_below.specs.declared.format_description.component.Component.{Component}
use Rattle.time_below.specs.Facts.{Facts}
use Rattle.time_below.specs.Width.{component_width, group_of}
use Rattle.time_fmt.specs.Description.{has_group, supplied_outcome, current_outcome, component_outcome}

-- a component that is not deprecated stays
pub current_is_kept : (c : Component) → IsTrue (is_current c) → current_component c ≡ c
current_is_kept c h = grind (arith, common_steps)

-- its outcome is what it shows of a value that supplies its group, and a refusal of any other
pub outcome_with_group : (c : Component) (f : Facts) → IsTrue (is_current c) → true ≡ has_group (group_of c) f
    → component_outcome c f ≡ supplied_outcome c f
outcome_with_group c f current has = ap (λ d. current_outcome d f) (current_is_kept c current) ∙ rw (← has) refl

-- no conversion is followed by another
pub current_is_current : (c : Component) → current_component (current_component c) ≡ current_component c
current_is_current c = grind (arith, common_steps)

-- the text in the place of a deprecated component is no wider
pub current_fits : (c : Component) → component_width (current_component c) ≤ component_width c
current_fits c = grind (arith, common_steps)
