-- The refusal of a component, without where its name lies in memory.
use Rattle.std.specs.Prelude.{ℕ, Bool, true, false, List}
use Rattle.time_below.specs.declared.component_range.ComponentRange.{ComponentRange}

-- the name of the component, and whether the other components set its range
pub record RangeRefusal : Type 0 where
  pub name : List ℕ
  pub is_conditional : Bool

-- outside the range that the other components set
abbrev pub conditional_range : List ℕ → RangeRefusal
conditional_range name = record { name = name; is_conditional = true }

-- a component outside its range, for any values of the others
abbrev pub unconditional_range : List ℕ → RangeRefusal
unconditional_range name = record { name = name; is_conditional = false }

-- what a refusal says
abbrev pub range_refusal : ComponentRange → RangeRefusal
range_refusal e = record { name = e.name.now; is_conditional = e.is_conditional }
