-- Items of lists in one another, one after the other.
use Rattle.std.specs.Prelude.{◌++◌, ℕ, nat_eq, if◌then◌else◌, Bool, true, false, List, [], ◌∷◌, length, Option, Some, None}
use Rattle.time_below.specs.Tree.{Tree, Trees, trees, byte_literal, text_literal, of_component, all_of, first_of, nothing, end, more}
use Rattle.time_describe.specs.Items.{is_nil}
use Rattle.time_describe.specs.Reading.{Frame}

-- an optional item is there, and of a first its first list
abbrev mutual
  pub flat : Tree → List Tree
  flat (byte_literal bytes) = byte_literal bytes ∷ []
  flat (text_literal text) = text_literal text ∷ []
  flat (of_component c) = of_component c ∷ []
  flat (all_of ts) = all_flat ts
  flat (first_of end) = []
  flat (first_of (more t ts)) = flat t
  flat nothing = []

  pub all_flat : Trees → List Tree
  all_flat end = []
  all_flat (more t ts) = flat t ++ all_flat ts

abbrev pub flat_items : List Tree → List Tree
flat_items ts = all_flat (trees ts)

-- what brackets show: the first list in them, or else that of the items that are read
abbrev pub first_shown : List Tree → List Tree → List Tree
first_shown [] items = items
first_shown (t ∷ ts) items = flat t

-- what is shown of items in lists that are open, of which the first is the innermost
abbrev pub shown_in : List Frame → List Tree → List Tree
shown_in [] items = items
shown_in (f ∷ fs) items = shown_in fs (flat_items f.items ++ first_shown f.lists items)

-- how many lists are open around the outermost one that is not shown
abbrev pub or_at : Option ℕ → Bool → ℕ → Option ℕ
or_at (Some depth) is_first here = Some depth
or_at None true here = None
or_at None false here = Some here

abbrev pub hidden_at : List Frame → Option ℕ
hidden_at [] = None
hidden_at (f ∷ fs) = or_at (hidden_at fs) (is_nil f.lists) (length fs)

-- the same where the innermost list is closed, and so many are left
abbrev pub closed_at : Option ℕ → ℕ → Option ℕ
closed_at None depth = None
closed_at (Some d) depth = if nat_eq d depth then None else Some d
