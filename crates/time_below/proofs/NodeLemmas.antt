-- Nodes one after another: what is left of a list of them, and what is known of their texts.
use Rattle.std.proofs.Common.{◌≡◌, arith, ℕ, ◌+◌, ◌<◌, ◌≤◌, min, Bool, ◌&&◌, List, map, drop, length}
use Rattle.std.specs.Prelude.{slice_index_or}
use Rattle.std.proofs.lemmas.List.{at_drop_more}
use Rattle.time_below.specs.Metadata.{greatest_usize, of_both, tree_metadata}
use Rattle.time_below.specs.Size.{sizes}
use Rattle.time_below.specs.Tree.{Tree, Trees, more, trees}
use Rattle.time_below.specs.Width.{trees_width, are_guaranteed_text}
use Rattle.time_below.specs.declared.format_description.metadata.Metadata.{Metadata}
use Rattle.std.proofs.lemmas.Grind.{common_steps}

-- what is left of a list begins with the node at its index
pub next_of : {A : Type 0} (tree : A → Tree) (nodes : List A) (i : ℕ) (x : A) → i < length nodes → x
    ≡ slice_index_or nodes i x
    → trees (map tree (drop i nodes)) ≡ more (tree x) (trees (map tree (drop (i + 1) nodes)))
next_of tree nodes i x h is = grind (arith, common_steps, at_drop_more)

-- each node makes the size of the nodes left smaller by its own and one
pub larger_by : {A : Type 0} (size : A → ℕ) (nodes : List A) (i : ℕ) (x : A) → i < length nodes → x
    ≡ slice_index_or nodes i x
    → sizes (map size (drop i nodes)) ≡ size x + sizes (map size (drop (i + 1) nodes)) + 1
larger_by size nodes i x h is = grind (arith, common_steps, at_drop_more)

pub smaller_rest : {A : Type 0} (size : A → ℕ) (nodes : List A) (i : ℕ) (x : A) → i < length nodes → x
    ≡ slice_index_or nodes i x
    → sizes (map size (drop (i + 1) nodes)) ≤ sizes (map size (drop i nodes))
smaller_rest size nodes i x h is = omega (arith, larger_by size nodes i x h is)

-- the sum so far and that of what is left make the sum of all
pub record Summed (sum : Metadata) (all left : Trees) (all_size left_size : ℕ) : Type 0 where
  pub size : left_size ≤ all_size
  pub fits : sum.max_bytes_needed ≤ greatest_usize
  pub width : min (sum.max_bytes_needed + trees_width left) greatest_usize ≡ min (trees_width all) greatest_usize
  pub text : (sum.guaranteed_utf8 && are_guaranteed_text left) ≡ are_guaranteed_text all

-- the order of joins does not matter for three tests
pub and_assoc : (a b c : Bool) → ((a && b) && c) ≡ (a && (b && c))
and_assoc a b c = grind (arith, common_steps)

-- the sum with the metadata of the next node is that of one node more
pub summed_more : {all_size left_size rest_size : ℕ} (all left rest : Trees) (t : Tree) (sum item added new : Metadata)
    → Summed sum all left all_size left_size → left ≡ more t rest → rest_size ≤ left_size
    → item ≡ tree_metadata t → added ≡ of_both sum item → new ≡ added → Summed new all rest all_size rest_size
summed_more all left rest t sum item added new along next smaller of_item of_sum is_sum = grind (arith, and_assoc)
