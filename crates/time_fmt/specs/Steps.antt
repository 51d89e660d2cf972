-- What the loop over steps writes.
use Rattle.std.specs.Prelude.{◌≡◌, ◌++◌, Bool, IsTrue, List, map, Ok}
use Rattle.std.specs.List.{list_all}
use Rattle.time_below.specs.Facts.{Facts}
use Rattle.time_below.specs.Tree.{Tree, all_of, trees}
use Rattle.time_fmt.specs.Guarantee.{AppendsTree}
use Rattle.time_fmt.specs.Sink.{Buffer}

-- The steps in front of those that are left are valid, and what their trees give is appended.
pub record IsWrittenUpTo {A : Type 0} (is_valid : A → Bool) (tree : A → Tree) (f : Facts) (all left : List A)
    (old now : Buffer) : Type 0 where
  pub front : List A
  pub whole : all ≡ front ++ left
  pub valid : IsTrue (list_all is_valid front)
  pub appends : AppendsTree (all_of (trees (map tree front))) f old now (Ok tt)
