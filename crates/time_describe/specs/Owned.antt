-- Items that own their parts, in lists that are not closed yet.
use Rattle.std.specs.Prelude.{◌≡◌, List, [], ◌∷◌, map, reverse}
use Rattle.std.specs.Global.{Vec}
use Rattle.time_below.specs.Tree.{Tree, owned_tree}
use Rattle.time_below.specs.declared.format_description.owned_format_item.OwnedFormatItem.{OwnedFormatItem}
use Rattle.time_describe.specs.Reading.{Frame}
use Rattle.time_describe.specs.declared.owned_list.Outer.{Outer}

-- the items before brackets, and the lists in them
abbrev pub outer_view : Outer → List Tree × List Tree
outer_view o = (map owned_tree o.items.items, map owned_tree o.lists.items)

-- the innermost first
abbrev pub outer_views : List Outer → List (List Tree × List Tree)
outer_views os = reverse (map outer_view os)

abbrev pub frame_view : Frame → List Tree × List Tree
frame_view f = (f.items, f.lists)

-- these items, in these lists
pub record HoldsOwned (fs : List Frame) (held : Vec OwnedFormatItem) (brackets : Vec Outer) (all : List Tree) : Type 0 where
  pub items : map owned_tree held.items ≡ all
  pub outer : outer_views brackets.items ≡ map frame_view fs

-- these lists, in brackets behind these items, in these lists
pub record HoldsOwnedLists (fs : List Frame) (items : List Tree) (held : Vec OwnedFormatItem) (brackets : Vec Outer) (lists : List Tree) : Type 0 where
  pub none : held.items ≡ []
  pub outer : outer_views brackets.items ≡ (items, lists) ∷ map frame_view fs
