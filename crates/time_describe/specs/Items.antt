-- Items that are added to a list.
use Rattle.std.specs.Prelude.{Bool, true, false, ◌&&◌, List, [], ◌∷◌, ◌++◌}
use Rattle.time_below.specs.Tree.{Tree, all_of, first_of, nothing, of_component}
use Rattle.time_describe.specs.Literal.{literal_of}
use Rattle.time_describe.specs.declared.items.Parted.{Parted}

-- whatever the list held, it holds these behind it
abbrev pub Adds : {S : Type 0} → (S → List Tree → Type 0) → S → S → List Tree → Type 0
Adds Holds old new items = (before : List Tree) → Holds old before → Holds new (before ++ items)

-- whether there are none
abbrev pub is_nil : List Tree → Bool
is_nil [] = true
is_nil (t ∷ ts) = false

-- whether they are literals and components alone
abbrev pub is_leaf : Tree → Bool
is_leaf (all_of ts) = false
is_leaf (first_of ts) = false
is_leaf nothing = false
is_leaf t = true

abbrev pub are_leaves : List Tree → Bool
are_leaves [] = true
are_leaves (t ∷ ts) = is_leaf t && are_leaves ts

-- three components, and the literals between them
abbrev pub items_of_parted : Parted → List Tree
items_of_parted p =
    of_component p.first ∷ literal_of (p.before_second ∷ []) ∷ of_component p.second ∷ literal_of (p.before_third ∷ []) ∷ of_component p.third ∷ []
