-- Laws of descriptions and of what is known of their texts.
use Rattle.std.specs.Prelude.{◌≡◌, ◌≤◌, [], ℕ, Bool}
use Rattle.time_below.specs.Facts.{Facts}
use Rattle.time_below.specs.Tree.{Tree, Trees, all_of, first_of, end, more, unmarked}
use Rattle.time_below.specs.Width.{tree_width, is_guaranteed_text}
use Rattle.time_below.specs.declared.format_description.metadata.Metadata.{Metadata}
use Rattle.time_fmt.specs.Description.{tree_outcome}
use Rattle.time_below.specs.Metadata.{greatest_usize, of_nothing, of_both}
use Rattle.time_fmt.specs.Outcome.{Outcome, done, join}

-- what a description gives for the components of a value, its width and its guarantee are those of the tree
pub record Means (outcome_of : Facts → Outcome) (width : ℕ) (is_guaranteed : Bool) (tree : Tree) : Type 0 where
  pub same_outcome : (f : Facts) → outcome_of f ≡ tree_outcome tree f
  pub same_width : width ≡ tree_width tree
  pub same_guarantee : is_guaranteed ≡ is_guaranteed_text tree

-- trees that are equal once bytes are read as texts, and deprecated components as current ones
abbrev pub EqualTreesHaveEqualOutcomes : Type 0
EqualTreesHaveEqualOutcomes = (s t : Tree) (f : Facts) → unmarked s ≡ unmarked t → tree_outcome s f ≡ tree_outcome t f

-- a first is its first item alone, or nothing
abbrev pub FirstIsItsFirstItem : Type 0
FirstIsItsFirstItem =
    (t : Tree) (ts : Trees) (f : Facts)
    → (tree_outcome (first_of (more t ts)) f ≡ tree_outcome t f) × (tree_outcome (first_of end) f ≡ done [])

-- a list is its first item, and then the others, up to a refusal
abbrev pub ListIsItsItemsInOrder : Type 0
ListIsItsItemsInOrder =
    (t : Tree) (ts : Trees) (f : Facts)
    → (tree_outcome (all_of (more t ts)) f ≡ join (tree_outcome t f) (tree_outcome (all_of ts) f))
    × (tree_outcome (all_of end) f ≡ done [])

-- the order of joins does not matter for outcomes, and an empty outcome changes nothing
abbrev pub OutcomesAreAMonoid : Type 0
OutcomesAreAMonoid =
    (a b c : Outcome) → (join (join a b) c ≡ join a (join b c)) × (join (done []) a ≡ a) × (join a (done []) ≡ a)

-- what is known of texts is added in any order
abbrev pub IsWidth : Metadata → Type 0
IsWidth m = m.max_bytes_needed ≤ greatest_usize

abbrev pub MetadataIsACommutativeMonoid : Type 0
MetadataIsACommutativeMonoid =
    (a b c : Metadata) → IsWidth a
    → (of_both (of_both a b) c ≡ of_both a (of_both b c)) × (of_both a b ≡ of_both b a) × (of_both of_nothing a ≡ a)
