-- Three parts with a byte between each two.
use Rattle.std.proofs.Common.{◌≡◌, ℕ, ◌≤◌, ◌&&◌, List, [], ◌∷◌, length, sym, ap, ◌∙◌, arith, map, drop}
use Rattle.std.proofs.Common.{get_or, subst, Option, Some, None, IfSome}
use Rattle.time_below.specs.declared.format_description.component.Component.{Component}
use Rattle.time_below.proofs.NodeLemmas.{next_of}
use Rattle.time_below.specs.Tree.{Tree, Trees, of_component, text_literal, more, trees}
use Rattle.time_below.specs.Width.{is_guaranteed_text, are_guaranteed_text}
use Rattle.time_fmt.specs.Description.{tree_outcome, trees_outcome}
use Rattle.time_fmt.specs.Outcome.{Outcome, done, join}
use Rattle.time_fmt.specs.Runs.{run_tree, three_parts}
use Rattle.time_fmt.specs.declared.runs.Run.{Run}
use Rattle.time_plan.specs.Steps.{IsAlike, Begins}
use Rattle.time_fmt.proofs.WriteLemmas.{join_assoc, join_nothing}

-- what is joined to three parts is joined to the last of them
regrouped : (a x b y c o : Outcome)
    → join a (join x (join b (join y (join c o))))
    ≡ join (join a (join x (join b (join y (join c (done [])))))) o
regrouped a x b y c o =
    sym (join_assoc a (join x (join b (join y (join c (done []))))) o
    ∙ ap (join a) (join_assoc x (join b (join y (join c (done [])))) o
    ∙ ap (join x) (join_assoc b (join y (join c (done []))) o
    ∙ ap (join b) (join_assoc y (join c (done [])) o
    ∙ ap (join y) (ap (λ z. join z o) (join_nothing c))))))

-- a component, a text of one byte and so on: three parts, and what is left
three_begin : (p q r : Component) (x y : ℕ) (a b c : Tree) (left : Trees) → IsAlike a (of_component p)
    → IsAlike b (of_component q) → IsAlike c (of_component r)
    → Begins (more a (more (text_literal (x ∷ [])) (more b (more (text_literal (y ∷ [])) (more c left)))))
    (three_parts p x q y r) left
three_begin p q r x y a b c left is_a is_b is_c = record {
  outcome = λ f.
      ap (λ o. join o (join (done (x ∷ [])) (join (tree_outcome b f) (join (done (y ∷ [])) (join (tree_outcome c f) (trees_outcome left f)))))) (is_a.same_outcome f)
      ∙ ap (λ o. join (tree_outcome (of_component p) f) (join (done (x ∷ [])) (join o (join (done (y ∷ [])) (join (tree_outcome c f) (trees_outcome left f)))))) (is_b.same_outcome f)
      ∙ ap (λ o. join (tree_outcome (of_component p) f) (join (done (x ∷ [])) (join (tree_outcome (of_component q) f) (join (done (y ∷ [])) (join o (trees_outcome left f)))))) (is_c.same_outcome f)
      ∙ regrouped (tree_outcome (of_component p) f) (done (x ∷ []))
      (tree_outcome (of_component q) f) (done (y ∷ []))
      (tree_outcome (of_component r) f) (trees_outcome left f);
  width = omega (arith, is_a.same_width, is_b.same_width, is_c.same_width);
  text = ap (λ w. w && (is_guaranteed_text b && (is_guaranteed_text c && are_guaranteed_text left))) is_a.same_guarantee
      ∙ ap (λ w. w && (is_guaranteed_text c && are_guaranteed_text left)) is_b.same_guarantee
      ∙ ap (λ w. w && are_guaranteed_text left) is_c.same_guarantee;
}

-- so where the trees are those of five nodes
pub run_begins : (run : Option Run) (p q r : Component) (x y : ℕ) (a s b t c : Tree)
    → IsAlike a (of_component p) → s ≡ text_literal (x ∷ [])
    → IsAlike b (of_component q) → t ≡ text_literal (y ∷ []) → IsAlike c (of_component r)
    → IfSome run (λ it. run_tree it ≡ three_parts p x q y r)
    → IfSome run (λ it. (left : Trees) → Begins (more a (more s (more b (more t (more c left))))) (run_tree it) left)
run_begins None p q r x y a s b t c is_a is_s is_b is_t is_c is = tt
run_begins (Some it) p q r x y a s b t c is_a is_s is_b is_t is_c is = λ left.
    rw (is_s, is_t, is) (three_begin p q r x y a b c left is_a is_b is_c)

-- and these stand at the front of a list
pub front_begins : {A : Type 0} (tree : A → Tree) (nodes : List A) (a x b y c : A) (t : Tree) (behind : List A)
    → 5 ≤ length nodes → behind ≡ drop 5 nodes
    → a ≡ get_or nodes 0 a → x ≡ get_or nodes 1 x → b ≡ get_or nodes 2 b → y ≡ get_or nodes 3 y → c ≡ get_or nodes 4 c
    → ((left : Trees) → Begins (more (tree a) (more (tree x) (more (tree b) (more (tree y) (more (tree c) left))))) t left)
    → Begins (trees (map tree nodes)) t (trees (map tree behind))
front_begins tree nodes a x b y c t behind long is_behind at_0 at_1 at_2 at_3 at_4 begins =
    let left = trees (map tree (drop 5 nodes)) in
    let whole : more (tree a) (more (tree x) (more (tree b) (more (tree y) (more (tree c) left)))) ≡ trees (map tree nodes) =
    sym (next_of tree nodes 0 a (omega (arith, long)) at_0
    ∙ ap (more (tree a)) (next_of tree nodes 1 x (omega (arith, long)) at_1
    ∙ ap (more (tree x)) (next_of tree nodes 2 b (omega (arith, long)) at_2
    ∙ ap (more (tree b)) (next_of tree nodes 3 y (omega (arith, long)) at_3
    ∙ ap (more (tree y)) (next_of tree nodes 4 c (omega (arith, long)) at_4))))) in
    rw is_behind (subst (λ ts. Begins ts t left) whole (begins left))
